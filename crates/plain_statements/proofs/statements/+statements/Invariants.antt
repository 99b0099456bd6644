use Rattle.std.proofs.Common.{◌≡◌, drop, map}
use Rattle.c_types.specs.Types.{plain_type}
use Rattle.c_tree.specs.Trees.{plain_trees}
use Rattle.core_meaning.specs.Plain.{plain_item}
use Rattle.core_meaning.specs.Statements.{items_as, judged_items}
use Rattle.plain_scope.specs.Blocks.{without_block}
use Rattle.plain_scope.specs.PlainScope.{plain_scope, uses_of}
use Rattle.plain_declarators.specs.Progress.{Continues}
use Rattle.plain_simple_statements.specs.Blocks.{put}
use Rattle.plain_simple_statements.specs.Simple.{around_of}
use Rattle.plain_statements.proofs.statements.+statements.Given as goal

abbrev pub invariant-statement_items-loop-tree : goal.invariant-statement_items-loop-tree
invariant-statement_items-loop-tree l = record {
  outside : without_block (plain_scope l.scope) ≡ without_block (plain_scope l.initial.scope);
  so_far : Continues
      (judged_items (around_of (plain_scope l.initial.scope) (plain_type l.returns) l.in_loop) (map plain_type l.initial.slots.items) (plain_trees l.list))
      (judged_items (around_of (plain_scope l.scope) (plain_type l.returns) l.in_loop) (map plain_type l.slots.items) (plain_trees (drop l.tree-index l.list)))
      (λ others. items_as others.slots (put (map plain_item l.items.items) others.core))
      (uses_of l.initial.used)
      (uses_of l.used);
}
