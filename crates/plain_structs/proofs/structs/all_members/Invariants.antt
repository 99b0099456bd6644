use Rattle.std.proofs.Common.{◌≡◌, length, drop}
use Rattle.c_tree.specs.Trees.{plain_trees}
use Rattle.core_meaning.specs.UnitNames.{all_members}
use Rattle.plain_scope.specs.PlainScope.{plain_scope, uses_of}
use Rattle.plain_structs.specs.PlainMembers.{plain_members}
use Rattle.plain_structs.specs.Structs.{no_members}
use Rattle.plain_structs.specs.Leading.{Leads}
use Rattle.plain_structs.proofs.structs.all_members.Given as goal

abbrev pub invariant-loop-i : goal.invariant-loop-i
invariant-loop-i l = record {
  all : l.i-end ≡ length l.list;
  so_far : Leads
      (all_members (plain_scope l.initial.scope) l.number no_members (plain_trees l.list))
      (all_members (plain_scope l.scope) l.number (plain_members l.known) (plain_trees (drop l.i l.list)))
      (uses_of l.initial.used)
      (uses_of l.used);
}
