use Rattle.std.proofs.Common.{◌≡◌, Bool, not, IsTrue, drop, List}
use Rattle.cond_formula.specs.Features.{has}
use Rattle.cond_formula.specs.Conditions.{value}
use Rattle.conditional.specs.Entries.{entries_of, some_holds, Stands}
use Rattle.conditional.specs.Judgements.{Checked, Computes, Shows}
use Rattle.conditional.proofs.crossing.all_pairs.Given as goal

abbrev pub invariant-loop-x : goal.invariant-loop-x
invariant-loop-x g l = record {
  kept : g.O.Oracle.admits l.oracle ≡ g.O.Oracle.admits l.fn.oracle;
  shows : (gives : g.A.Plain.Form → g.B.Plain.Form → Checked g.C.Plain.Form g.R.Plain.Form) → Computes g.A.Plain.form g.B.Plain.form g.C.Plain.form g.R.Plain.form (g.F.Operator.answers l.operator) gives →
      (n : List Bool) → IsTrue (value (has n) (g.O.Oracle.admits l.fn.oracle)) →
      (a : g.A.Plain.Form) (b : g.B.Plain.Form) → Stands (has n) a (entries_of g.A.Plain.form l.xs) → Stands (has n) b (entries_of g.B.Plain.form l.ys) →
      Shows g.C.Plain.form g.R.Plain.form (has n) (not (some_holds (has n) (entries_of g.A.Plain.form (drop l.x-index l.xs)))) (gives a b) l.all;
}
