use Rattle.std.proofs.Common.{◌≡◌, ℕ, Bool, ◌++◌, drop}
use Rattle.cond_formula.specs.Conditions.{condition_of, value}
use Rattle.conditional.specs.Entries.{entries_of, listed, seen, under}
use Rattle.conditional.proofs.lists.CondList.append_under.Given as goal

abbrev pub invariant-loop-entry : goal.invariant-loop-entry
invariant-loop-entry g l = (on : ℕ → Bool) →
    seen on (listed g.T.Plain.form l.self) ++ under (value on (condition_of l.when)) (seen on (entries_of g.T.Plain.form (drop l.entry-index l.other.entries.items)))
    ≡ seen on (listed g.T.Plain.form l.fn.self) ++ under (value on (condition_of l.when)) (seen on (listed g.T.Plain.form l.other))
