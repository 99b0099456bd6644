use Rattle.std.proofs.Common.{◌≡◌, ℕ, Bool, All, map, take}
use Rattle.cond_formula.specs.Conditions.{condition_of, value, VarsBelow}
use Rattle.feature_ranges.specs.Ranges.{IsOffFrom}
use Rattle.feature_ranges.proofs.ranges.+within.Given as goal

abbrev pub invariant-all_within-loop-part : goal.invariant-all_within-loop-part
invariant-all_within-loop-part l = record {
  below : All (λ f. VarsBelow l.features (condition_of f)) l.all.items;
  same : (on : ℕ → Bool) → IsOffFrom l.features on → map (λ f. value on (condition_of f)) l.all.items ≡ map (λ f. value on (condition_of f)) (take l.part-index l.parts);
}
