use Rattle.std.proofs.Common.{sym, ap, ◌∙◌}
use Rattle.choice_trees.specs.ChoiceTrees.{plain_branches}
use Rattle.choice_states.specs.Seen.{branch_seen, choice_seen}
use Rattle.choice_states.proofs.Branches.{or_later, branches_append}
use Rattle.choice_states.proofs.PartLists.{first_behind}
use Rattle.choice_states.proofs.parts.as_one.Goals as goal

pub loop-part-preserved : goal.loop-part-preserved
loop-part-preserved c = λ on.
    ap (λ items. branch_seen on (plain_branches items)) c.in_ok-append.ensures.items
    ∙ branches_append on c.loop-part.branches.items c.in-Some.part.branches.items
    ∙ ap (λ r. or_later r (choice_seen on c.in-Some.part)) (c.loop-part.invariant on)
    ∙ sym (first_behind on c.loop-part.yielded c.in-Some.part)
