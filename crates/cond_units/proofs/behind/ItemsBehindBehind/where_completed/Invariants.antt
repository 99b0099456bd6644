use Rattle.std.proofs.Common.{ℕ, Bool}
use Rattle.cond_formula.specs.Conditions.{condition_of, value}
use Rattle.cond_units.proofs.Completing.{CompletedSoFar}
use Rattle.cond_units.proofs.behind.ItemsBehindBehind.where_completed.Given as goal

abbrev pub invariant-loop-entry : goal.invariant-loop-entry
invariant-loop-entry l = record {
  so_far : (on : ℕ → Bool) → CompletedSoFar l.tag on l.entry-items l.entry-index (value on (condition_of l.found));
}
