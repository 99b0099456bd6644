use Rattle.std.proofs.Common.{◌≡◌, ℕ, Bool, ◌||◌, map, drop}
use Rattle.cond_formula.specs.Conditions.{condition_of, value}
use Rattle.cond_expressions.specs.Values.{value_entry}
use Rattle.cond_groups.specs.Truths.{any_met, any_bad}
use Rattle.cond_groups.proofs.conditions.truth_of.Given as goal

abbrev pub invariant-loop-when : goal.invariant-loop-when
invariant-loop-when l =
    ((on : ℕ → Bool) → (value on (condition_of l.truth.holds) || any_met on (map value_entry (drop l.when-index l.values))) ≡ any_met on (map value_entry l.values))
    × ((on : ℕ → Bool) → (value on (condition_of l.truth.refused) || any_bad on (map value_entry (drop l.when-index l.values))) ≡ (value on (condition_of l.initial.truth.refused) || any_bad on (map value_entry l.values)))
