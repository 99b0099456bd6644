use Rattle.std.proofs.Common.{◌≡◌, ℕ, Bool, true, false, IsTrue, List, drop}
use Rattle.cond_formula.specs.Features.{has}
use Rattle.cond_formula.specs.Conditions.{condition_of, value}
use Rattle.conditional.specs.Entries.{seen}
use Rattle.c_tree.specs.Trees.{trees}
use Rattle.c_tree.specs.Grammar.{file_item}
use Rattle.tree_derivations.specs.Derivations.{Each}
use Rattle.declarator_lists.specs.Entries.{entries_at}
use Rattle.core_meaning.specs.UnitNames.{UnitState, judged_file_items}
use Rattle.cond_units.specs.Seen.{seen_unit}
use Rattle.cond_units.specs.Declaring.{IsUnit}
use Rattle.cond_units.specs.Where.{Stays}
use Rattle.cond_units.proofs.EachItem.{SoFar}
use Rattle.cond_units.proofs.items.declare_each.Given as goal

abbrev pub invariant-loop-place : goal.invariant-loop-place
invariant-loop-place g l = record {
  kept : g.O.Oracle.admits l.oracle ≡ g.O.Oracle.admits l.fn.oracle;
  elsewhere : (n : List Bool) → IsTrue (value (has n) (g.O.Oracle.admits l.fn.oracle)) → value (has n) (condition_of l.when) ≡ false
      → Stays (seen_unit (has n) l.fn.unit) (seen_unit (has n) l.unit) × (value (has n) (condition_of l.refused) ≡ false);
  so_far : (n : List Bool) (globals : ℕ) → IsTrue (value (has n) (g.O.Oracle.admits l.fn.oracle)) → value (has n) (condition_of l.when) ≡ true
      → (by : ℕ → ℕ) (unit : UnitState) → IsUnit by (seen_unit (has n) l.fn.unit) unit → Each file_item (trees (seen (has n) (entries_at (has n) l.all)))
      → SoFar globals by unit.scope.structs (judged_file_items globals unit (trees (seen (has n) (entries_at (has n) l.all)))) (seen (has n) (entries_at (has n) (drop l.place l.all))) (seen_unit (has n) l.unit) (value (has n) (condition_of l.refused));
}
