use Rattle.cond_formula.specs.Conditions.{condition_of, value}
use Rattle.choice_trees.specs.ChoiceTrees.{plain_branches}
use Rattle.choice_states.specs.Seen.{branch_seen}
use Rattle.std.proofs.Common.{◌||◌}
use Rattle.choice_states.specs.Parts.{is_there}
use Rattle.choice_states.proofs.Branches.{conditions_step}
use Rattle.choice_states.proofs.parts.with_conditions.Goals as goal

pub loop-when-preserved : goal.loop-when-preserved
loop-when-preserved c = λ on.
    conditions_step on c.args.branches.now c.loop-when.when-index c.loop-when-item.result (value on (condition_of c.loop-when.all)) (value on (condition_of c.in_ok-all.all))
    (value on (condition_of c.args.some) || is_there (branch_seen on (plain_branches c.args.branches.now)))
    c.loop-when-test.true c.loop-when-item.is (c.in_ok-all.ensures on) (c.loop-when.invariant on)
