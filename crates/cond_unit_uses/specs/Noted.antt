-- What has been noted of the uses of members beside what a unit is so far, as a configuration sees both (ISO/IEC 9899:2011, 6.5.2.3, 6.9).
use Rattle.std.specs.Prelude.{◌≡◌, ℕ, Bool, true, false, List, [], ◌++◌}
use Rattle.c_tree.specs.Trees.{PlainTree, PlainTrees, spelled, all_written}
use Rattle.c_tree.specs.Grammar.{file_item}
use Rattle.tree_derivations.specs.Derivations.{Derivation, Each}
use Rattle.bindings.specs.Laws.{ArePieces}
use Rattle.conditional.specs.Entries.{seen, listed}
use Rattle.conditional.specs.declared.lists.CondList.{CondList}
use Rattle.core_meaning.specs.Checking.{Binding, Checked, fine}
use Rattle.core_meaning.specs.Entities.{Struct}
use Rattle.core_meaning.specs.UnitNames.{UnitState, judged_item}
use Rattle.operand_types.specs.Laws.{KeepsApart}
use Rattle.selections.specs.Laws.{HasNames}
use Rattle.member_uses.specs.Uses.{Use, uses_in}
use Rattle.unit_member_uses.specs.Items.{uses_in_items}
use Rattle.type_tables.specs.Numbers.{NumbersKept}
use Rattle.cond_selections.specs.declared.entries.Selection.{Selection}
use Rattle.cond_selections.specs.Selected.{plain_selection}
use Rattle.cond_units.specs.declared.units.UnitTables.{UnitTables}
use Rattle.cond_units.specs.Seen.{SeenUnit, seen_unit}
use Rattle.cond_units.specs.Declaring.{IsUnit}
use Rattle.cond_units.specs.Where as units
use Rattle.cond_units.specs.Items.{GoesOnAnew}
use Rattle.cond_units.specs.Units.{one_item, all_items}

pub record NotedUnit : Type 0 where
  pub unit : SeenUnit
  pub uses : List Use

abbrev pub uses_at : (ℕ → Bool) → CondList Selection → List Use
uses_at on log = seen on (listed plain_selection log)

abbrev pub noted_unit : (ℕ → Bool) → UnitTables → CondList Selection → NotedUnit
noted_unit on unit log = record { unit = seen_unit on unit; uses = uses_at on log }

-- what is seen stays true of each unit of which it is, and nothing is noted
pub record Stays (old new : NotedUnit) : Type 0 where
  pub unit : units.Stays old.unit new.unit
  pub uses : new.uses ≡ old.uses

-- something is done where a condition is true; elsewhere all stays so
pub record Where (here : Bool) (Does : NotedUnit → NotedUnit → Type 0) (old new : NotedUnit) : Type 0 where
  pub elsewhere : here ≡ false → Stays old new
  pub does : here ≡ true → Does old new

-- What is seen goes on to say what the unit is, and these uses have been noted: so it is with the numbers that structs have there, and with all
-- others that the structs which are there share with them.
pub record Comes (by : ℕ → ℕ) (structs : List Struct) (next : UnitState) (uses : (ℕ → ℕ) → List Use) (old new : NotedUnit) : Type 0 where
  pub anew : GoesOnAnew by structs next new.unit
  pub noted : (numbers : ℕ → ℕ) → KeepsApart numbers → NumbersKept next.scope.structs anew.numbers numbers → new.uses ≡ old.uses ++ uses numbers

-- what is judged well in each unit of which what is seen is true is declared, and its uses are noted
pub record Notes (judged : UnitState → Checked UnitState) (Ready : Type 0) (uses : (ℕ → ℕ) → UnitState → List Use) (old new : NotedUnit) : Type 0 where
  pub notes :
      (by : ℕ → ℕ) (unit next : UnitState) (bindings : List Binding) → IsUnit by old.unit unit → HasNames unit.scope → Ready → judged unit ≡ fine next bindings
      → Comes by unit.scope.structs next (λ numbers. uses numbers unit) old new

-- an item, before the rest of a unit
abbrev pub NotesItem : ℕ → PlainTree → PlainTrees → NotedUnit → NotedUnit → Type 0
NotesItem globals tree rest = Notes (one_item globals tree rest) (Derivation file_item tree × ArePieces (spelled tree)) (λ by unit. uses_in by tree (judged_item globals unit tree rest))

-- items, one after the other
abbrev pub NotesItems : ℕ → PlainTrees → NotedUnit → NotedUnit → Type 0
NotesItems globals parts = Notes (all_items globals parts) (Each file_item parts × ArePieces (all_written parts [])) (λ by unit. uses_in_items by globals unit parts)
