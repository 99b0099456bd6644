use Rattle.std.proofs.Common.{ap, ◌∙◌}
use Rattle.cond_formula.specs.Features.{has}
use Rattle.cond_formula.specs.Conditions.{value}
use Rattle.choice_expansions.proofs.Crossing.{one_row, all_rows}
use Rattle.choice_expansions.proofs.rows.crossed.Goals as goal

pub loop-row-preserved : goal.loop-row-preserved
loop-row-preserved g c = record {
  kept = c.in_ok-push_rows.ensures.kept ∙ c.loop-row.invariant.kept;
  so_far = λ n tree rest admitted alone.
      one_row (has n) tree rest c.args.rows.now c.loop-row.row-index c.row-item.result c.args.expansions.now c.loop-row.all.items c.push_rows.new.rows.items
      c.loop-row-test.true c.row-item.is alone (c.in_ok-push_rows.ensures.adds n rest (ap (value (has n)) c.loop-row.invariant.kept ∙ admitted))
      (c.loop-row.invariant.so_far n tree rest admitted alone);
}

pub returns-clause-same : goal.returns-clause-same
returns-clause-same g c = λ n tree rest admitted alone.
    all_rows (has n) tree rest c.args.rows.now c.loop-row.row-index c.loop-row.all.items c.loop-row-test.false (c.loop-row.invariant.so_far n tree rest admitted alone)
