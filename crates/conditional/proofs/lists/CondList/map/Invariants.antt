use Rattle.std.proofs.Common.{◌≡◌, ℕ, Bool, ◌++◌, drop, map}
use Rattle.conditional.specs.Entries.{entries_of, listed, seen, Maps}
use Rattle.conditional.proofs.lists.CondList.map.Given as goal

abbrev pub invariant-loop-entry : goal.invariant-loop-entry
invariant-loop-entry g l = (gives : g.T.Plain.Form → g.B.Plain.Form) → Maps g.T.Plain.form g.B.Plain.form (g.F.Function.answers l.f) gives → (on : ℕ → Bool) →
    seen on (listed g.B.Plain.form l.images) ++ map gives (seen on (entries_of g.T.Plain.form (drop l.entry-index l.self.entries.items))) ≡ map gives (seen on (listed g.T.Plain.form l.self))
