use Rattle.std.proofs.Common.{◌≡◌, ℕ, Bool, true, false, IsTrue, List, map, drop}
use Rattle.cond_formula.specs.Features.{has}
use Rattle.cond_formula.specs.Conditions.{condition_of, value}
use Rattle.conditional.specs.Entries.{seen}
use Rattle.conditional.specs.Judgements.{fine}
use Rattle.c_types.specs.Types.{PlainType}
use Rattle.c_tree.specs.Trees.{PlainTrees}
use Rattle.c_tree.specs.Grammar.{Role}
use Rattle.tree_derivations.specs.Derivations.{Declared}
use Rattle.core_meaning.specs.UnitNames.{UnitState}
use Rattle.operand_types.specs.OperandTypes.{renumbered}
use Rattle.declarator_lists.specs.Lists.{declared_in, trees_of}
use Rattle.declarator_lists.specs.Entries.{declarator_at, listed_at}
use Rattle.declaration_readings.specs.Readings.{goes_through, next_name}
use Rattle.plain_objects.specs.PlainStates.{plain_storage}
use Rattle.type_tables.specs.Follows.{IsThere}
use Rattle.cond_declarators.specs.Types.{ShowsType}
use Rattle.cond_units.specs.Seen.{seen_unit}
use Rattle.cond_units.specs.Declaring.{IsUnit}
use Rattle.cond_units.specs.Where.{Stays}
use Rattle.cond_units.proofs.Walking.{WalksTo}
use Rattle.cond_units.proofs.names.name_each.Given as goal

abbrev pub invariant-loop-listed : goal.invariant-loop-listed
invariant-loop-listed g l = record {
  kept : g.O.Oracle.admits l.oracle ≡ g.O.Oracle.admits l.fn.oracle;
  elsewhere : (n : List Bool) → IsTrue (value (has n) (g.O.Oracle.admits l.fn.oracle)) → value (has n) (condition_of l.when) ≡ false
      → Stays (seen_unit (has n) l.fn.unit) (seen_unit (has n) l.unit) × (value (has n) (condition_of l.refused) ≡ false);
  so_far : (n : List Bool) (globals : ℕ) (role : Role) (list : PlainTrees) → IsTrue (value (has n) (g.O.Oracle.admits l.fn.oracle)) → seen (has n) (listed_at (has n) l.all) ≡ declared_in (trees_of list)
      → value (has n) (condition_of l.when) ≡ true → (by : ℕ → ℕ) (unit : UnitState) (ty : PlainType) → IsUnit by (seen_unit (has n) l.fn.unit) unit
      → (there : IsThere unit.scope.structs ty) (shown : ShowsType (has n) (fine (renumbered by ty)) l.declaration.base.now) → Declared role list
      → WalksTo by unit.scope.structs (has n) l.declaration.base.now globals (plain_storage l.declaration.storage) (g.B.Behind.rest l.declaration.behind.now n) role ty there shown
      (goes_through (next_name globals (plain_storage l.declaration.storage) ty (g.B.Behind.rest l.declaration.behind.now n)) (record { state = unit; refused = false }) list)
      (seen (has n) (map (declarator_at (has n)) (drop l.listed-index l.all))) (seen_unit (has n) l.unit) (value (has n) (condition_of l.refused));
}
