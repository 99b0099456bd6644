use Rattle.std.proofs.Common.{◌+◌, ◌*◌}
use Rattle.choice_trees.specs.ChoiceTrees.{plain_item, plain_branches, plain_choices}
use Rattle.choice_trees.specs.Depths.{depth, branches_depth, choices_depth}
use Rattle.changed_forests.proofs.Appended.{BranchesSoFar, PartsSoFar}
use Rattle.changed_forests.proofs.changing.+change.Given as goal

abbrev pub invariant-changed_choice-loop-when : goal.invariant-changed_choice-loop-when
invariant-changed_choice-loop-when g l = BranchesSoFar (g.C.TokenChange.change l.rule) l.when-items l.when-index l.branches.items

abbrev pub invariant-changed_parts-loop-part : goal.invariant-changed_parts-loop-part
invariant-changed_parts-loop-part g l = PartsSoFar (g.C.TokenChange.change l.rule) l.parts l.part-index l.all.items

abbrev pub decreases-changed_item_of : goal.decreases-changed_item_of
decreases-changed_item_of g a = 3 * depth (plain_item a.item.now)

abbrev pub decreases-changed_choice : goal.decreases-changed_choice
decreases-changed_choice g a = 3 * branches_depth (plain_branches a.choice.now.branches.items) + 1

abbrev pub decreases-changed_parts : goal.decreases-changed_parts
decreases-changed_parts g a = 3 * choices_depth (plain_choices a.parts.now) + 2
