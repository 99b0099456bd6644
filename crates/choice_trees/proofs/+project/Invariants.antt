use Rattle.std.proofs.Common.{◌≡◌, ◌+◌, ◌*◌, drop}
use Rattle.cond_formula.specs.Features.{has}
use Rattle.c_tree.specs.Trees.{plain_trees}
use Rattle.choice_trees.specs.ChoiceTrees.{plain_item, plain_branches, plain_choices, branch_at, parts_at}
use Rattle.choice_trees.specs.Depths.{depth, branches_depth, choices_depth}
use Rattle.choice_trees.proofs.Parts.{also}
use Rattle.choice_trees.proofs.+project.Given as goal

abbrev pub invariant-projecting::Choice+Item::tree_at-loop-when : goal.invariant-projecting::Choice+Item::tree_at-loop-when
invariant-projecting::Choice+Item::tree_at-loop-when l =
    branch_at (has l.c) (plain_branches (drop l.when-index l.when-items)) ≡ branch_at (has l.c) (plain_branches l.when-items)

abbrev pub invariant-projecting::trees_at-loop-place : goal.invariant-projecting::trees_at-loop-place
invariant-projecting::trees_at-loop-place l =
    also (plain_trees l.trees.items) (parts_at (has l.c) l.kind l.place (plain_choices (drop l.place l.parts))) ≡ parts_at (has l.c) l.kind 0 (plain_choices l.parts)

abbrev pub decreases-projecting::Choice+Item::tree_at : goal.decreases-projecting::Choice+Item::tree_at
decreases-projecting::Choice+Item::tree_at a = 3 * branches_depth (plain_branches a.self.now.branches.items) + 1

abbrev pub decreases-projecting::trees_at : goal.decreases-projecting::trees_at
decreases-projecting::trees_at a = 3 * choices_depth (plain_choices a.parts.now) + 2

abbrev pub decreases-trees::Item::tree_at : goal.decreases-trees::Item::tree_at
decreases-trees::Item::tree_at a = 3 * depth (plain_item a.self.now)
