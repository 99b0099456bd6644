use Rattle.std.proofs.Common.{ℕ, Bool, drop}
use Rattle.conditional.specs.Entries.{entries_of, alternatives, Maps}
use Rattle.conditional.proofs.ValueLaws.{MappedSoFar}
use Rattle.conditional.proofs.values.CondValue.map.Given as goal

abbrev pub invariant-loop-alternative : goal.invariant-loop-alternative
invariant-loop-alternative g l = (gives : g.T.Plain.Form → g.B.Plain.Form) → Maps g.T.Plain.form g.B.Plain.form (g.F.Function.answers l.f) gives → (on : ℕ → Bool) →
    MappedSoFar on gives (alternatives g.T.Plain.form l.self) (entries_of g.T.Plain.form (drop l.alternative-index l.self.alternatives.items)) (alternatives g.B.Plain.form l.images)
