use Rattle.std.proofs.Common.{ap, ◌∙◌}
use Rattle.cond_formula.specs.Features.{has}
use Rattle.cond_formula.specs.Conditions.{condition_of, value}
use Rattle.conditional.specs.Entries.{seen}
use Rattle.choice_expansions.specs.Expansions.{expanded}
use Rattle.cond_parameters.proofs.Pushed.{one_tree, all_trees}
use Rattle.cond_parameters.proofs.trees.push_trees.Goals as goal

pub loop-expansion-preserved : goal.loop-expansion-preserved
loop-expansion-preserved g c = record {
  kept = c.in_ok-push_tree.ensures.kept ∙ c.loop-expansion.invariant.kept;
  added = λ n admitted.
      one_tree (has n) (value (has n) (condition_of c.args.here.now)) c.args.expansions.now c.loop-expansion.expansion-index c.expansion-item.result
      (seen (has n) (expanded c.loop-expansion.all.items)) (seen (has n) (expanded c.push_tree.new.all.items)) _
      c.loop-expansion-test.true c.expansion-item.is (c.in_ok-push_tree.ensures.adds n (ap (value (has n)) c.loop-expansion.invariant.kept ∙ admitted)) (c.loop-expansion.invariant.added n admitted);
}

pub returns-clause-adds : goal.returns-clause-adds
returns-clause-adds g c = λ n admitted.
    all_trees (has n) (value (has n) (condition_of c.args.here.now)) c.args.expansions.now c.loop-expansion.expansion-index (seen (has n) (expanded c.loop-expansion.all.items)) _
    c.loop-expansion-test.false (c.loop-expansion.invariant.added n admitted)
