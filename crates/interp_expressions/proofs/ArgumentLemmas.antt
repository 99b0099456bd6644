-- The plain form of arguments, of which there is a first one.
use Rattle.std.proofs.Common.{◌≡◌, ◌≤◌, ◌-◌, List, length, get_or, take, drop, sym, ap, ◌∙◌, arith}
use Rattle.std.proofs.Math.Seq.{drop-cons}
use Rattle.std.proofs.lemmas.List.{take_rest}
use Rattle.core_meaning.specs.declared.expressions.Expression.{Expression}
use Rattle.core_meaning.specs.Plain.{plain_expression, plain_arguments}
use Rattle.core_meaning.specs.Program.{argument}

pub first_argument : (es : List Expression) (e : Expression) → 1 ≤ length es → e ≡ get_or es 0 e → plain_arguments es ≡ argument (plain_expression e) (plain_arguments (take (length es - 1) (drop 1 es)))
first_argument es e there same =
    ap plain_arguments (drop-cons es 0 e (omega arith))
    ∙ (ap (λ x. argument (plain_expression x) (plain_arguments (drop 1 es))) (sym same)
    ∙ ap (λ xs. argument (plain_expression e) (plain_arguments xs)) (sym (take_rest es 1)))
