use Rattle.std.proofs.Common.{◌≡◌, Bool, IsTrue, List}
use Rattle.cond_formula.specs.Features.{has}
use Rattle.cond_formula.specs.Conditions.{condition_of, value}
use Rattle.cond_sizes.proofs.PartByPart.{PartSoFar}
use Rattle.cond_sizes.proofs.totals.part_total.Given as goal

abbrev pub invariant-loop-when : goal.invariant-loop-when
invariant-loop-when g l = record {
  kept : g.O.Oracle.admits l.oracle ≡ g.O.Oracle.admits l.fn.oracle;
  so_far : (n : List Bool) → IsTrue (value (has n) (g.O.Oracle.admits l.fn.oracle))
      → PartSoFar (g.M.Measure.measure l.measure) l.needed (has n) l.when-items l.when-index (condition_of l.left) l.all;
}
