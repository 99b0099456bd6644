use Rattle.std.proofs.Common.{◌≡◌, ℕ, Bool, ◌++◌, drop}
use Rattle.conditional.specs.Entries.{entries_of, listed, seen}
use Rattle.cond_expressions.proofs.pruning.with_small_conditions.Given as goal

abbrev pub invariant-loop-entry : goal.invariant-loop-entry
invariant-loop-entry g l = (on : ℕ → Bool) →
    seen on (listed g.T.Plain.form l.smaller) ++ seen on (entries_of g.T.Plain.form (drop l.entry-index l.list.entries.items)) ≡ seen on (listed g.T.Plain.form l.list)
