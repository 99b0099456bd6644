use Rattle.std.proofs.Common.{◌≡◌, ℕ, Bool, true, false, IsTrue, List, [], drop}
use Rattle.cond_formula.specs.Features.{has}
use Rattle.cond_formula.specs.Conditions.{condition_of, value}
use Rattle.conditional.specs.Entries.{seen}
use Rattle.c_tree.specs.Trees.{trees, all_written}
use Rattle.c_tree.specs.Grammar.{file_item}
use Rattle.tree_derivations.specs.Derivations.{Each}
use Rattle.bindings.specs.Laws.{ArePieces}
use Rattle.declarator_lists.specs.Entries.{entries_at}
use Rattle.core_meaning.specs.Checking.{Binding, fine}
use Rattle.core_meaning.specs.UnitNames.{UnitState, judged_file_items}
use Rattle.selections.specs.Laws.{HasNames}
use Rattle.cond_units.specs.Seen.{seen_unit}
use Rattle.cond_units.specs.Declaring.{IsUnit}
use Rattle.cond_unit_uses.specs.Noted.{uses_at, noted_unit, Stays}
use Rattle.cond_unit_uses.proofs.EachItem.{IsReached}
use Rattle.cond_unit_uses.proofs.items.note_each.Given as goal

abbrev pub invariant-loop-place : goal.invariant-loop-place
invariant-loop-place g l = record {
  kept : g.O.Oracle.admits l.oracle ≡ g.O.Oracle.admits l.fn.oracle;
  elsewhere : (n : List Bool) → IsTrue (value (has n) (g.O.Oracle.admits l.fn.oracle)) → value (has n) (condition_of l.when) ≡ false → Stays (noted_unit (has n) l.fn.unit l.fn.log) (noted_unit (has n) l.unit l.log);
  so_far : (n : List Bool) (globals : ℕ) → IsTrue (value (has n) (g.O.Oracle.admits l.fn.oracle)) → value (has n) (condition_of l.when) ≡ true
      → (by : ℕ → ℕ) (unit next : UnitState) (bindings : List Binding) → IsUnit by (seen_unit (has n) l.fn.unit) unit → HasNames unit.scope → Each file_item (trees (seen (has n) (entries_at (has n) l.all)))
      → ArePieces (all_written (trees (seen (has n) (entries_at (has n) l.all))) []) → judged_file_items globals unit (trees (seen (has n) (entries_at (has n) l.all))) ≡ fine next bindings
      → IsReached globals by unit (trees (seen (has n) (entries_at (has n) l.all))) next (uses_at (has n) l.fn.log) (seen (has n) (entries_at (has n) (drop l.place l.all))) (noted_unit (has n) l.unit l.log);
}
