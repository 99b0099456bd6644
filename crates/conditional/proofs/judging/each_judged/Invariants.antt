use Rattle.std.proofs.Common.{ℕ, Bool, not, drop}
use Rattle.conditional.specs.Entries.{entries_of, some_holds, Maps, Stands}
use Rattle.conditional.specs.Judgements.{Checked, checked, Shows}
use Rattle.conditional.proofs.judging.each_judged.Given as goal

abbrev pub invariant-loop-x : goal.invariant-loop-x
invariant-loop-x g l = (gives : g.A.Plain.Form → Checked g.C.Plain.Form g.R.Plain.Form) → Maps g.A.Plain.form (checked g.C.Plain.form g.R.Plain.form) (g.F.Judgement.answers l.judgement) gives →
    (on : ℕ → Bool) (a : g.A.Plain.Form) → Stands on a (entries_of g.A.Plain.form l.xs) →
    Shows g.C.Plain.form g.R.Plain.form on (not (some_holds on (entries_of g.A.Plain.form (drop l.x-index l.xs)))) (gives a) l.all
