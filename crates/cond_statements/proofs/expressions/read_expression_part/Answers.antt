use Rattle.std.proofs.Common.{◌&&◌, ap, ◌∙◌}
use Rattle.std.proofs.lemmas.Result.{IfOk-weaker}
use Rattle.cond_formula.specs.Features.{has}
use Rattle.cond_formula.specs.Conditions.{condition_of, value}
use Rattle.cond_statements.proofs.expressions.read_expression_part.Goals as goal

pub returns-clause-refused : goal.returns-clause-refused
returns-clause-refused g c =
    IfOk-weaker c.both.result _ _ (λ f is n admitted h by ty scope stands follows derived.
    is (has n) ∙ ap (λ b. b && value (has n) (condition_of c.in_ok-refused.refused)) (ap (value (has n)) c.in_ok-try_clone.ensures ∙ h)
    ∙ c.in_ok-refused.ensures.refused n admitted by ty scope stands follows derived) c.both.ensures
