use Rattle.std.proofs.Common.{◌≡◌, ◌-◌, map, length, drop}
use Rattle.c_types.specs.Types.{plain_type}
use Rattle.c_tree.specs.Trees.{plain_trees}
use Rattle.core_meaning.specs.Declarations.{with_items, locals_from}
use Rattle.plain_scope.specs.Blocks.{without_block}
use Rattle.plain_scope.specs.PlainScope.{plain_scope, uses_of}
use Rattle.plain_declarations.specs.PlainLocals.{plain_local_item}
use Rattle.plain_declarators.specs.Progress.{Continues}
use Rattle.plain_declarations.proofs.locals.locals_from.Given as goal

abbrev pub invariant-loop-place : goal.invariant-loop-place
invariant-loop-place l = record {
  so_far : Continues
      (locals_from (plain_scope l.initial.scope) (map plain_type l.initial.slots.items) (plain_type l.base) (plain_trees l.list))
      (locals_from (plain_scope l.scope) (map plain_type l.slots.items) (plain_type l.base) (plain_trees (drop l.place l.list)))
      (with_items (map plain_local_item l.items.items))
      (uses_of l.initial.used)
      (uses_of l.used);
  outside : without_block (plain_scope l.scope) ≡ without_block (plain_scope l.initial.scope);
}

abbrev pub decreases-loop-place : goal.decreases-loop-place
decreases-loop-place l = length l.list - l.place
