use Rattle.std.proofs.Common.{◌≡◌, drop, length}
use Rattle.c_tree.specs.Trees.{plain_trees}
use Rattle.tree_comparisons.proofs.same.+trees.Given as goal

abbrev pub invariant-are_same-loop-i : goal.invariant-are_same-loop-i
invariant-are_same-loop-i l = (length l.a ≡ length l.b) × (plain_trees (drop l.i l.a) ≡ plain_trees (drop l.i l.b) → plain_trees l.a ≡ plain_trees l.b)
