use Rattle.std.proofs.Common.{ap, ◌∙◌}
use Rattle.cond_formula.specs.Conditions.{conditions_of, all_true}
use Rattle.choice_trees.specs.ChoiceTrees.{plain_branches}
use Rattle.choice_states.specs.Seen.{branch_seen}
use Rattle.choice_states.proofs.Branches.{restricted_step}
use Rattle.choice_states.proofs.parts.restricted.Goals as goal

pub loop-when-preserved : goal.loop-when-preserved
loop-when-preserved c = λ on.
    ap (λ items. branch_seen on (plain_branches items)) c.in_ok-push.ensures.items
    ∙ restricted_step on (all_true on (conditions_of c.args.here.now)) c.loop-when.branches.items c.loop-when.yielded c.in-Some.when c.in_ok-condition.condition c.in-Some.item
    (c.in_ok-condition.ensures on) (c.loop-when.invariant on)
