use Rattle.std.proofs.Common.{ℕ, Bool, drop}
use Rattle.cond_formula.specs.Conditions.{condition_of, value}
use Rattle.conditional.specs.Entries.{entries_of, listed, alternatives, seen, first}
use Rattle.conditional.proofs.ValueLaws.{FirstSoFar}
use Rattle.conditional.proofs.lists.CondList.first_value.Given as goal

abbrev pub invariant-loop-entry : goal.invariant-loop-entry
invariant-loop-entry g l = (on : ℕ → Bool) →
    FirstSoFar on (value on (condition_of l.earlier)) (first (seen on (listed g.T.Plain.form l.self)))
    (first (seen on (entries_of g.T.Plain.form (drop l.entry-index l.self.entries.items)))) (alternatives g.T.Plain.form l.all)
