use Rattle.std.proofs.Common.{arith, ◌∙◌}
use Rattle.cond_formula.specs.Features.{has}
use Rattle.cond_formula.specs.Conditions.{condition_of, value}
use Rattle.conditional.specs.Entries.{entry_of, entries_of}
use Rattle.conditional.proofs.CrossingLaws.{cell_step, cells_end}
use Rattle.conditional.proofs.crossing.place_cells.Goals as goal

pub loop-y-preserved : goal.loop-y-preserved
loop-y-preserved g c = record {
  kept = c.in_ok-place_possible.ensures.kept ∙ c.loop-y.invariant.kept;
  shows = λ gives computes n admitted a b k sx sy is_x s.
      cell_step g.B.Plain.form g.C.Plain.form g.R.Plain.form (has n) gives (entries_of g.A.Plain.form c.args.xs.now) (entry_of g.A.Plain.form c.args.x.now) c.args.ys.now c.y-item.result c.loop-y.y-index _ _ c.loop-y.all c.place_possible.new.self
      c.loop-y-test.true c.y-item.is (c.in_ok-when.ensures gives computes (has n)) (c.in_ok-place_possible.ensures.judges n (rw c.loop-y.invariant.kept admitted)) a b k sx sy is_x
      (c.loop-y.invariant.shows gives computes n admitted a b k sx sy is_x s);
}

pub returns-clause-judges : goal.returns-clause-judges
returns-clause-judges g c = λ gives computes n admitted. record {
  shows = λ a b k sx sy is_x s.
      cells_end g.B.Plain.form g.C.Plain.form g.R.Plain.form (has n) k (value (has n) (condition_of c.args.x.now.when)) (gives a b) c.args.ys.now c.loop-y.y-index c.loop-y.all (omega arith)
      (c.loop-y.invariant.shows gives computes n admitted a b k sx sy is_x s);
}
