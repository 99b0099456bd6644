use Rattle.std.proofs.Common.{◌≡◌, Bool, not, ◌&&◌, ◌||◌, IsTrue, drop, List}
use Rattle.cond_formula.specs.Features.{has}
use Rattle.cond_formula.specs.Conditions.{condition_of, value}
use Rattle.conditional.specs.Entries.{entries_of, some_holds, Stands}
use Rattle.conditional.specs.Judgements.{Checked, Computes, Shows}
use Rattle.conditional.proofs.crossing.place_cells.Given as goal

abbrev pub invariant-loop-y : goal.invariant-loop-y
invariant-loop-y g l = record {
  kept : g.O.Oracle.admits l.oracle ≡ g.O.Oracle.admits l.fn.oracle;
  shows : (gives : g.A.Plain.Form → g.B.Plain.Form → Checked g.C.Plain.Form g.R.Plain.Form) → Computes g.A.Plain.form g.B.Plain.form g.C.Plain.form g.R.Plain.form (g.F.Operator.answers l.operator) gives →
      (n : List Bool) → IsTrue (value (has n) (g.O.Oracle.admits l.fn.oracle)) →
      (a : g.A.Plain.Form) (b : g.B.Plain.Form) (k : Bool) → Stands (has n) a (entries_of g.A.Plain.form l.xs) → Stands (has n) b (entries_of g.B.Plain.form l.ys) →
      (IsTrue (value (has n) (condition_of l.x.when)) → g.A.Plain.form l.x.what ≡ a) → Shows g.C.Plain.form g.R.Plain.form (has n) k (gives a b) l.fn.all →
      Shows g.C.Plain.form g.R.Plain.form (has n) (k || (value (has n) (condition_of l.x.when) && not (some_holds (has n) (entries_of g.B.Plain.form (drop l.y-index l.ys))))) (gives a b) l.all;
}
