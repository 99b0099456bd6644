use Rattle.std.proofs.Common.{◌≡◌, ℕ, ◌+◌, ◌*◌, min, nat_le, Bool, drop}
use Rattle.cond_formula.specs.Conditions.{condition_of, value}
use Rattle.c_tree.specs.Heights.{highest_of}
use Rattle.choice_trees.specs.ChoiceTrees.{plain_item, plain_branches, plain_choices, parts_at}
use Rattle.choice_trees.specs.Depths.{depth, branches_depth, choices_depth}
use Rattle.forest_heights.specs.Levels.{height_or, Tells, TellFrom, values}
use Rattle.forest_heights.proofs.Choosing.{SoFar}
use Rattle.forest_heights.proofs.Reaching.{ReachedSoFar}
use Rattle.forest_heights.proofs.heights.+reach.Given as goal

abbrev pub invariant-choice_reaches-loop-when : goal.invariant-choice_reaches-loop-when
invariant-choice_reaches-loop-when l = (on : ℕ → Bool) → SoFar on (λ part. nat_le l.high (height_or l.missing part)) l.when-items l.when-index l.reached l.left

abbrev pub invariant-part_reaches-loop-place : goal.invariant-part_reaches-loop-place
invariant-part_reaches-loop-place l = (on : ℕ → Bool) → ReachedSoFar on l.kind l.high l.parts l.place l.reached

abbrev pub invariant-any_level_reaches-loop-place : goal.invariant-any_level_reaches-loop-place
invariant-any_level_reaches-loop-place l =
    (on : ℕ → Bool) (count : ℕ) → Tells on l.levels count →
    (value on (condition_of l.reached) ≡ nat_le l.high (min l.place count + highest_of (parts_at on l.kind 0 (plain_choices l.parts))))
    × TellFrom l.place (values on (drop l.place l.levels)) count

abbrev pub decreases-item_reaches : goal.decreases-item_reaches
decreases-item_reaches a = 6 * depth (plain_item a.item.now)

abbrev pub decreases-choice_reaches : goal.decreases-choice_reaches
decreases-choice_reaches a = 6 * branches_depth (plain_branches a.choice.now.branches.items) + 1

abbrev pub decreases-part_reaches : goal.decreases-part_reaches
decreases-part_reaches a = 6 * choices_depth (plain_choices a.parts.now) + 2

abbrev pub decreases-any_level_reaches : goal.decreases-any_level_reaches
decreases-any_level_reaches a = 6 * choices_depth (plain_choices a.parts.now) + 3

abbrev pub decreases-level_reaches : goal.decreases-level_reaches
decreases-level_reaches a = 6 * choices_depth (plain_choices a.parts.now) + 4

abbrev pub decreases-node_reaches : goal.decreases-node_reaches
decreases-node_reaches a = 6 * choices_depth (plain_choices a.parts.now) + 5
