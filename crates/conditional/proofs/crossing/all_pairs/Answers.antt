use Rattle.std.proofs.Common.{arith, refl, ◌∙◌}
use Rattle.cond_formula.specs.Features.{has}
use Rattle.conditional.specs.Entries.{entries_of}
use Rattle.conditional.proofs.CrossingLaws.{alternatives_start, pair_step, alternatives_end}
use Rattle.conditional.proofs.crossing.all_pairs.Goals as goal

pub loop-x-init : goal.loop-x-init
loop-x-init g c = record {
  kept = refl;
  shows = λ gives computes n admitted a b sx sy. alternatives_start g.C.Plain.form g.R.Plain.form (has n) (gives a b) (entries_of g.A.Plain.form c.args.xs.now) _ sx.held (c.nothing-all.ensures (has n) (gives a b));
}

pub loop-x-preserved : goal.loop-x-preserved
loop-x-preserved g c = record {
  kept = c.in_ok-place_row.ensures.kept ∙ c.loop-x.invariant.kept;
  shows = λ gives computes n admitted a b sx sy.
      pair_step g.A.Plain.form g.C.Plain.form g.R.Plain.form (has n) gives c.args.xs.now c.x-item.result (entries_of g.B.Plain.form c.args.ys.now) c.loop-x.x-index c.loop-x.all c.place_row.new.all
      c.loop-x-test.true c.x-item.is (c.in_ok-place_row.ensures.judges gives computes n (rw c.loop-x.invariant.kept admitted)) a b sx sy
      (c.loop-x.invariant.shows gives computes n admitted a b sx sy);
}

pub returns-clause-judges : goal.returns-clause-judges
returns-clause-judges g c = λ gives computes n admitted. record {
  shows = λ a b sx sy. alternatives_end g.A.Plain.form g.C.Plain.form g.R.Plain.form (has n) (gives a b) c.args.xs.now c.loop-x.x-index c.loop-x.all (omega arith) (c.loop-x.invariant.shows gives computes n admitted a b sx sy);
}
