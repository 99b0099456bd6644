use Rattle.std.proofs.Common.{◌≡◌, ℕ, length, drop}
use Rattle.c_tree.specs.Trees.{plain_trees}
use Rattle.core_meaning.specs.UnitNames.{judged_file_items}
use Rattle.plain_scope.specs.PlainScope.{uses_of}
use Rattle.plain_objects.specs.PlainStates.{plain_state}
use Rattle.plain_structs.specs.Leading.{Leads}
use Rattle.plain_units.proofs.items.judge_items.Given as goal

abbrev pub invariant-loop-i : goal.invariant-loop-i
invariant-loop-i l = record {
  all : l.i-end ≡ length l.parts;
  so_far : (globals : ℕ) → Leads
      (judged_file_items globals (plain_state globals l.initial.unit) (plain_trees l.parts))
      (judged_file_items globals (plain_state globals l.unit) (plain_trees (drop l.i l.parts)))
      (uses_of l.initial.used)
      (uses_of l.used);
}
