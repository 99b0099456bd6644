use Rattle.std.proofs.Common.{ℕ, Bool, ◌+◌, ◌*◌}
use Rattle.choice_trees.specs.ChoiceTrees.{plain_item, plain_branches, plain_choices}
use Rattle.choice_trees.specs.Depths.{depth, branches_depth, choices_depth}
use Rattle.exclusive_forests.specs.Apart.{ChoiceApart, PartsApart}
use Rattle.exclusive_forests.proofs.exclusions.+exclude.Given as goal

abbrev pub invariant-exclusive_choice-loop-when : goal.invariant-exclusive_choice-loop-when
invariant-exclusive_choice-loop-when l = (on : ℕ → Bool) → ChoiceApart on (plain_branches l.yielded) (plain_branches l.branches.items)

abbrev pub invariant-exclusive_parts-loop-part : goal.invariant-exclusive_parts-loop-part
invariant-exclusive_parts-loop-part l = (on : ℕ → Bool) → PartsApart on (plain_choices l.yielded) (plain_choices l.apart.items)

abbrev pub decreases-exclusive_item : goal.decreases-exclusive_item
decreases-exclusive_item a = 3 * depth (plain_item a.item)

abbrev pub decreases-exclusive_choice : goal.decreases-exclusive_choice
decreases-exclusive_choice a = 3 * branches_depth (plain_branches a.choice.branches.items) + 1

abbrev pub decreases-exclusive_parts : goal.decreases-exclusive_parts
decreases-exclusive_parts a = 3 * choices_depth (plain_choices a.parts.items) + 2
