use Rattle.std.proofs.Common.{◌∙◌}
use Rattle.choice_states.proofs.Branches.{same_behind}
use Rattle.choice_states.proofs.copies.kept_choice.Goals as goal

pub loop-when-preserved : goal.loop-when-preserved
loop-when-preserved c = λ on all.
    c.in_ok-keep.ensures on all ∙ same_behind on c.loop-when.branches.items c.loop-when.yielded c.in-Some.when c.in-Some.item (c.loop-when.invariant on all)
