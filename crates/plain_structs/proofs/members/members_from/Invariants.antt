use Rattle.std.proofs.Common.{◌-◌, length, drop}
use Rattle.c_types.specs.Types.{plain_type}
use Rattle.c_tree.specs.Trees.{plain_trees}
use Rattle.core_meaning.specs.UnitNames.{members_from}
use Rattle.plain_scope.specs.PlainScope.{plain_scope, uses_of}
use Rattle.plain_structs.specs.PlainMembers.{plain_members}
use Rattle.plain_structs.specs.Leading.{Leads}
use Rattle.plain_structs.proofs.members.members_from.Given as goal

abbrev pub invariant-loop-place : goal.invariant-loop-place
invariant-loop-place l = record {
  so_far : Leads
      (members_from (plain_scope l.scope) l.number (plain_members l.initial.known) (plain_type l.base) (plain_trees l.list))
      (members_from (plain_scope l.scope) l.number (plain_members l.known) (plain_type l.base) (plain_trees (drop l.place l.list)))
      (uses_of l.initial.used)
      (uses_of l.used);
}

abbrev pub decreases-loop-place : goal.decreases-loop-place
decreases-loop-place l = length l.list - l.place
