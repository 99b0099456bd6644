use Rattle.std.proofs.Common.{drop}
use Rattle.conditional.specs.Entries.{entries_of}
use Rattle.conditional.specs.Judgements.{Checked, checked, Computes, EachGives}
use Rattle.conditional.proofs.crossing.column_gives.Given as goal

abbrev pub invariant-loop-x : goal.invariant-loop-x
invariant-loop-x g l = (gives : g.A.Plain.Form → g.B.Plain.Form → Checked g.C.Plain.Form g.R.Plain.Form) → Computes g.A.Plain.form g.B.Plain.form g.C.Plain.form g.R.Plain.form (g.F.Operator.answers l.operator) gives →
    EachGives (λ a. gives a (g.B.Plain.form l.b)) (checked g.C.Plain.form g.R.Plain.form l.outcome) (entries_of g.A.Plain.form (drop l.x-index l.xs)) →
    EachGives (λ a. gives a (g.B.Plain.form l.b)) (checked g.C.Plain.form g.R.Plain.form l.outcome) (entries_of g.A.Plain.form l.xs)
