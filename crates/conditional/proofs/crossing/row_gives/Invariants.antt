use Rattle.std.proofs.Common.{drop}
use Rattle.conditional.specs.Entries.{entries_of}
use Rattle.conditional.specs.Judgements.{Checked, checked, Computes, EachGives}
use Rattle.conditional.proofs.crossing.row_gives.Given as goal

abbrev pub invariant-loop-y : goal.invariant-loop-y
invariant-loop-y g l = (gives : g.A.Plain.Form → g.B.Plain.Form → Checked g.C.Plain.Form g.R.Plain.Form) → Computes g.A.Plain.form g.B.Plain.form g.C.Plain.form g.R.Plain.form (g.F.Operator.answers l.operator) gives →
    EachGives (gives (g.A.Plain.form l.a)) (checked g.C.Plain.form g.R.Plain.form l.outcome) (entries_of g.B.Plain.form (drop l.y-index l.ys)) →
    EachGives (gives (g.A.Plain.form l.a)) (checked g.C.Plain.form g.R.Plain.form l.outcome) (entries_of g.B.Plain.form l.ys)
