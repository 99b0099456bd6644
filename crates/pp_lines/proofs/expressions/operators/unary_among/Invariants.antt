use Rattle.std.proofs.Common.{◌≡◌, map, drop}
use Rattle.c_text.specs.Expressions.{unary_text}
use Rattle.pp_lines.specs.ExpressionReading.{spelled_first}
use Rattle.pp_lines.specs.ExpressionView.{unary_view}
use Rattle.pp_lines.proofs.expressions.operators.unary_among.Given as goal

abbrev pub invariant-loop-operator : goal.invariant-loop-operator
invariant-loop-operator l =
    spelled_first unary_text l.text (map unary_view (drop l.operator-index l.operators))
    ≡ spelled_first unary_text l.text (map unary_view l.operators)
