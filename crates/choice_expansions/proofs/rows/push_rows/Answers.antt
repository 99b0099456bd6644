use Rattle.std.proofs.Common.{ap, ◌∙◌}
use Rattle.cond_formula.specs.Features.{has}
use Rattle.cond_formula.specs.Conditions.{value}
use Rattle.conditional.specs.Entries.{seen}
use Rattle.choice_expansions.specs.Expansions.{rows_before}
use Rattle.choice_expansions.proofs.Crossing.{one_expansion, all_expansions}
use Rattle.choice_expansions.proofs.rows.push_rows.Goals as goal

pub loop-expansion-preserved : goal.loop-expansion-preserved
loop-expansion-preserved g c = record {
  kept = c.in_ok-push_row.ensures.kept ∙ c.loop-expansion.invariant.kept;
  added = λ n rest admitted.
      one_expansion (has n) c.args.row.now rest c.args.expansions.now c.loop-expansion.expansion-index c.expansion-item.result
      (seen (has n) (rows_before rest c.loop-expansion.rows.items)) (seen (has n) (rows_before rest c.push_row.new.rows.items)) _
      c.loop-expansion-test.true c.expansion-item.is (c.in_ok-push_row.ensures.adds n rest (ap (value (has n)) c.loop-expansion.invariant.kept ∙ admitted))
      (c.loop-expansion.invariant.added n rest admitted);
}

pub returns-clause-adds : goal.returns-clause-adds
returns-clause-adds g c = λ n rest admitted.
    all_expansions (has n) c.args.row.now rest c.args.expansions.now c.loop-expansion.expansion-index (seen (has n) (rows_before rest c.loop-expansion.rows.items)) _
    c.loop-expansion-test.false (c.loop-expansion.invariant.added n rest admitted)
