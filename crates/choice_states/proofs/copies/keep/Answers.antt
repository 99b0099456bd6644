use Rattle.std.proofs.Common.{ap, ◌∙◌}
use Rattle.choice_trees.specs.ChoiceTrees.{plain_branches}
use Rattle.choice_states.specs.Seen.{branch_seen}
use Rattle.choice_states.proofs.Branches.{kept_step, dropped_step}
use Rattle.choice_states.proofs.copies.keep.Goals as goal

pub returns-then-is_excluded : goal.returns-then-is_excluded
returns-then-is_excluded c = λ on all. dropped_step on c.args.branches.now.items c.args.when c.args.item (c.is_excluded.ensures c.if-is_excluded.true on all)

pub returns : goal.returns
returns c = λ on all.
    ap (λ items. branch_seen on (plain_branches items)) c.in_ok-push.ensures.items
    ∙ kept_step on c.args.branches.now.items c.args.when c.in_ok-left.left c.args.item (c.in_ok-left.ensures on all)
