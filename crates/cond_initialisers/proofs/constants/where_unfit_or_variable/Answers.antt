use Rattle.std.proofs.Common.{◌&&◌, ◌||◌, not, ap, ap₂, ◌∙◌}
use Rattle.std.specs.Prelude.{Bool}
use Rattle.std.proofs.lemmas.Result.{IfOk-weaker}
use Rattle.cond_formula.specs.Features.{has}
use Rattle.cond_formula.specs.Conditions.{condition_of, value}
use Rattle.cond_formula.specs.ConditionLaws.{condition_of-True}
use Rattle.cond_initialisers.proofs.constants.where_unfit_or_variable.Goals as goal

pub returns-clause-same : goal.returns-clause-same
returns-clause-same g c = IfOk-weaker c.either.result _ _ (λ f holds n right admitted.
    holds (has n)
    ∙ ap₂ (λ (a b : Bool). a || b) (c.in_ok-unfit.ensures.same n right admitted)
    (c.in_ok-variable.ensures (has n)
    ∙ (ap (λ t. value (has n) t && not (value (has n) (condition_of c.in_ok-constant.constant))) condition_of-True
    ∙ ap not (c.in_ok-constant.ensures.same n right (ap (value (has n)) c.in_ok-unfit.ensures.kept ∙ admitted))))) c.either.ensures
