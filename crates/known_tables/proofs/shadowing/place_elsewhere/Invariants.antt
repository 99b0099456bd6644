use Rattle.std.proofs.Common.{ℕ, Bool}
use Rattle.cond_formula.specs.Conditions.{Inverse, condition_of}
use Rattle.conditional.specs.Entries.{entries_of, alternatives, PlacesUnder}
use Rattle.known_tables.proofs.shadowing.place_elsewhere.Given as goal

abbrev pub invariant-loop-alternative : goal.invariant-loop-alternative
invariant-loop-alternative g l = (on : ℕ → Bool) →
    PlacesUnder on (Inverse (condition_of l.when)) (entries_of g.T.Plain.form l.yielded) (alternatives g.T.Plain.form l.fn.all) (alternatives g.T.Plain.form l.all)
