use Rattle.std.proofs.Common.{◌≡◌, ℕ, Bool, ◌||◌, drop}
use Rattle.cond_formula.specs.Conditions.{condition_of, value}
use Rattle.cond_bodies.specs.CondItems.{items_at}
use Rattle.cond_runs.specs.CondArguments.{is_present}
use Rattle.cond_runs.proofs.arguments.when_present.Given as goal

abbrev pub invariant-loop-entry : goal.invariant-loop-entry
invariant-loop-entry l = (on : ℕ → Bool) → (value on (condition_of l.some) || is_present (items_at on (drop l.entry-index l.items))) ≡ is_present (items_at on l.items)
