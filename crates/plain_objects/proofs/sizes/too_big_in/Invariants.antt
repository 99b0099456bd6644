use Rattle.std.proofs.Common.{◌≡◌, drop}
use Rattle.c_tree.specs.Trees.{plain_trees}
use Rattle.core_meaning.specs.UnitNames.{too_big_in}
use Rattle.plain_scope.specs.PlainScope.{plain_scope}
use Rattle.plain_objects.proofs.sizes.too_big_in.Given as goal

abbrev pub invariant-loop-tree : goal.invariant-loop-tree
invariant-loop-tree l = too_big_in (plain_scope l.scope) (plain_trees (drop l.tree-index l.items)) ≡ too_big_in (plain_scope l.scope) (plain_trees l.items)
