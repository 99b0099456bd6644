-- A least model leaves off what the condition doesn't name, so it is the least over the features that are named.
use Rattle.std.proofs.Common.{◌≡◌, ℕ, ◌<◌, ◌≤◌, ◌⊎◌, Bool, true, false, ◌&&◌, ltb, List, IsTrue, sym, ◌∙◌, arith, inl, inr}
use Rattle.std.proofs.lemmas.Bool.{cases_lt, lt-ltb, le-ltb, true≢false}
use Rattle.cond_formula.specs.Features.{has}
use Rattle.cond_formula.specs.Conditions.{Condition, value, VarsBelow}
use Rattle.cond_formula.specs.ConditionLaws.{value_same_below}
use Rattle.sat_core.specs.Models.{IsLess, AreSame, IsLeastModel}
use Rattle.verdict_query.specs.Verdicts.{FewerFeaturesLaw, EqualConditionsLaw}

-- the same features as in the set below the bound, and none from it on
abbrev cut : ℕ → (ℕ → Bool) → ℕ → Bool
cut features on feature = ltb feature features && on feature

cut_below : (features : ℕ) (on : ℕ → Bool) (feature : ℕ) → feature < features → cut features on feature ≡ on feature
cut_below features on feature within = let e : ltb feature features ≡ true = lt-ltb feature features within in rw e

cut_above : (features : ℕ) (on : ℕ → Bool) (feature : ℕ) → features ≤ feature → cut features on feature ≡ false
cut_above features on feature past = let e : ltb feature features ≡ false = le-ltb feature features past in rw e

module _ (features most : ℕ) (fewer : features ≤ most) (condition : Condition) (below : VarsBelow features condition) (config : List Bool) (least : IsLeastModel most condition config) where
  holds_when_cut : (on : ℕ → Bool) → IsTrue (value on condition) → IsTrue (value (cut features on) condition)
  holds_when_cut on holds = value_same_below features (cut features on) on (λ feature within. cut_below features on feature within) condition below ∙ holds

  off : (feature : ℕ) → features ≤ feature → has config feature ≡ false
  off feature past =
      elim (cases_lt feature most) [
        | inl within ↦ elim (least.least (cut features (has config)) (holds_when_cut (has config) least.holds)) [
          | inl same ↦ same.same feature within ∙ cut_above features (has config) feature past
          | inr less ↦ elim (cases_lt less.first features) [
            | inl small ↦ absurd (true≢false (sym less.other_on ∙ cut_below features (has config) less.first small ∙ less.off))
            | inr large ↦ absurd (true≢false (sym less.other_on ∙ cut_above features (has config) less.first large))
          ]
        ]
        | inr outside ↦ least.within feature outside
      ]

  no_greater : (on : ℕ → Bool) → AreSame most (has config) (cut features on) ⊎ IsLess most (has config) (cut features on) → AreSame features (has config) on ⊎ IsLess features (has config) on
  no_greater on (inl same) = inl (record { same = λ feature within. same.same feature (omega arith) ∙ cut_below features on feature within })
  no_greater on (inr less) =
      elim (cases_lt less.first features) [
        | inl small ↦ inr (record {
          first = less.first;
          within = small;
          same_before = λ feature before. less.same_before feature before ∙ cut_below features on feature (omega arith);
          off = less.off;
          other_on = sym (cut_below features on less.first small) ∙ less.other_on;
        })
        | inr large ↦ absurd (true≢false (sym less.other_on ∙ cut_above features on less.first large))
      ]

  least_of_fewer : IsLeastModel features condition config
  least_of_fewer = record {
    holds = least.holds;
    within = off;
    least = λ on holds. no_greater on (least.least (cut features on) (holds_when_cut on holds));
  }

pub fewer_features : FewerFeaturesLaw
fewer_features features most fewer condition below config least = least_of_fewer features most fewer condition below config least

pub equal_conditions : EqualConditionsLaw
equal_conditions features one other same config is = record {
  holds = sym (same (has config)) ∙ is.holds;
  within = is.within;
  least = λ on holds. is.least on (same on ∙ holds);
}
