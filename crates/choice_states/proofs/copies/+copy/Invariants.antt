use Rattle.std.proofs.Common.{◌≡◌, ◌+◌, ◌*◌, map, take}
use Rattle.choice_trees.specs.ChoiceTrees.{plain_item, plain_branches, plain_choices}
use Rattle.choice_trees.specs.Depths.{depth, branches_depth, choices_depth}
use Rattle.choice_states.proofs.PlainForms.{plain_branch, plain_part}
use Rattle.choice_states.proofs.copies.+copy.Given as goal

abbrev pub invariant-copied_choice-loop-when : goal.invariant-copied_choice-loop-when
invariant-copied_choice-loop-when l = map plain_branch l.branches.items ≡ map plain_branch (take l.when-index l.when-items)

abbrev pub invariant-copied_parts-loop-part : goal.invariant-copied_parts-loop-part
invariant-copied_parts-loop-part l = map plain_part l.copies.items ≡ map plain_part (take l.part-index l.parts)

abbrev pub decreases-copied_item : goal.decreases-copied_item
decreases-copied_item a = 3 * depth (plain_item a.item.now)

abbrev pub decreases-copied_choice : goal.decreases-copied_choice
decreases-copied_choice a = 3 * branches_depth (plain_branches a.choice.now.branches.items) + 1

abbrev pub decreases-copied_parts : goal.decreases-copied_parts
decreases-copied_parts a = 3 * choices_depth (plain_choices a.parts.now) + 2
