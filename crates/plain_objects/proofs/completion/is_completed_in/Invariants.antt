use Rattle.std.proofs.Common.{◌≡◌, drop}
use Rattle.c_tree.specs.Trees.{plain_trees}
use Rattle.core_meaning.specs.UnitNames.{is_completed_in}
use Rattle.plain_objects.proofs.completion.is_completed_in.Given as goal

abbrev pub invariant-loop-tree : goal.invariant-loop-tree
invariant-loop-tree l = is_completed_in l.tag (plain_trees (drop l.tree-index l.rest)) ≡ is_completed_in l.tag (plain_trees l.rest)
