-- What is asked of every admitted configuration.
use Rattle.std.proofs.Common.{◌≡◌, ℕ, ◌≤◌, Bool, true, false, ◌&&◌, List, Option, Some, None, refl, sym, ap, ◌∙◌, subst}
use Rattle.std.specs.Prelude.{MatchOption}
use Rattle.cond_formula.specs.declared.formulas.Formula.{True}
use Rattle.cond_formula.specs.Conditions.{Condition, condition_of, value, VarsBelow}
use Rattle.cond_formula.specs.ConditionLaws.{condition_of-True}
use Rattle.sat_core.specs.Models.{IsLeastModel, HasNoModel}
use Rattle.verdict_query.specs.Verdicts.{where_admitted, FewerFeaturesLaw, EqualConditionsLaw}

and_true : (b : Bool) → (b && (true && true)) ≡ b
and_true true = refl
and_true false = refl

same : (model : Condition) (on : ℕ → Bool) → value on (where_admitted model (condition_of True)) ≡ value on model
same model on = ap (λ (condition : Condition). value on (where_admitted model condition)) condition_of-True ∙ and_true (value on model)

pub always_below : VarsBelow 128 (condition_of True)
always_below = subst (λ (condition : Condition). VarsBelow 128 condition) (sym condition_of-True) tt

below_where : (features : ℕ) (model : Condition) → VarsBelow features model → VarsBelow features (where_admitted model (condition_of True))
below_where features model below = (below, (subst (λ (condition : Condition). VarsBelow features condition) (sym condition_of-True) tt, tt))

pub found_is : FewerFeaturesLaw → EqualConditionsLaw → (features : ℕ) → features ≤ 128 → (model : Condition) → VarsBelow features model → (found : Option (List Bool)) → MatchOption found (HasNoModel (where_admitted model (condition_of True))) (IsLeastModel 128 (where_admitted model (condition_of True))) → MatchOption found (HasNoModel model) (IsLeastModel features model)
found_is fewer equal features few model below None none = λ on. sym (same model on) ∙ none on
found_is fewer equal features few model below (Some config) least =
    let both = where_admitted model (condition_of True) in
    equal features both model (same model) config (fewer features 128 few both (below_where features model below) config least)
