use Rattle.std.proofs.Common.{◌≡◌, map, drop}
use Rattle.c_text.specs.Expressions.{binary_text}
use Rattle.pp_lines.specs.ExpressionReading.{spelled_first}
use Rattle.pp_lines.specs.ExpressionView.{binary_view}
use Rattle.pp_lines.proofs.expressions.operators.binary_among.Given as goal

abbrev pub invariant-loop-operator : goal.invariant-loop-operator
invariant-loop-operator l =
    spelled_first binary_text l.text (map binary_view (drop l.operator-index l.operators))
    ≡ spelled_first binary_text l.text (map binary_view l.operators)
