use Rattle.std.proofs.Common.{ℕ, Bool, drop}
use Rattle.cond_formula.specs.Conditions.{condition_of, value}
use Rattle.conditional.specs.Entries.{entries_of, alternatives}
use Rattle.conditional.proofs.ValueLaws.{PlacedSoFar}
use Rattle.conditional.proofs.values.CondValue.place_under.Given as goal

abbrev pub invariant-loop-alternative : goal.invariant-loop-alternative
invariant-loop-alternative g l = (on : ℕ → Bool) →
    PlacedSoFar on (value on (condition_of l.when)) (alternatives g.T.Plain.form l.other) (entries_of g.T.Plain.form (drop l.alternative-index l.other.alternatives.items)) (alternatives g.T.Plain.form l.fn.self) (alternatives g.T.Plain.form l.self)
