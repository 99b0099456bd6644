use Rattle.std.proofs.Common.{ℕ, ◌-◌, length, drop}
use Rattle.c_types.specs.Types.{plain_type}
use Rattle.c_tree.specs.Trees.{plain_trees}
use Rattle.core_meaning.specs.UnitNames.{declared_from}
use Rattle.plain_scope.specs.PlainScope.{uses_of}
use Rattle.plain_objects.specs.PlainStates.{plain_state, plain_storage}
use Rattle.plain_structs.specs.Leading.{Leads}
use Rattle.plain_units.proofs.declarations.declare_from.Given as goal

abbrev pub invariant-loop-place : goal.invariant-loop-place
invariant-loop-place l = record {
  so_far : (globals : ℕ) → Leads
      (declared_from globals (plain_state globals l.initial.unit) (plain_storage l.storage) (plain_type l.base) (plain_trees l.list) (plain_trees l.rest))
      (declared_from globals (plain_state globals l.unit) (plain_storage l.storage) (plain_type l.base) (plain_trees (drop l.place l.list)) (plain_trees l.rest))
      (uses_of l.initial.used)
      (uses_of l.used);
}

abbrev pub decreases-loop-place : goal.decreases-loop-place
decreases-loop-place l = length l.list - l.place
