-- What comes of a unit, and of one unit more, as a configuration sees it (ISO/IEC 9899:2011, 6.9).
use Rattle.std.specs.Prelude.{◌≡◌, ℕ, Bool, ◌||◌, List, [], ◌∷◌, ◌++◌, length, option_map}
use Rattle.cond_formula.specs.Conditions.{condition_of, value}
use Rattle.conditional.specs.Entries.{seen, listed}
use Rattle.c_tree.specs.Trees.{PlainTrees}
use Rattle.c_tree.specs.Grammar.{file_item}
use Rattle.tree_derivations.specs.Derivations.{Each}
use Rattle.core_meaning.specs.Checking.{Checked}
use Rattle.core_meaning.specs.UnitNames.{UnitState, judged_to_end}
use Rattle.type_tables.specs.Seen.{seen_tables}
use Rattle.cond_units.specs.Seen.{SeenUnit, seen_unit}
use Rattle.type_tables.specs.Definitions.{definition_form}
use Rattle.cond_units.specs.declared.units.UnitTables.{UnitTables}
use Rattle.cond_units.specs.Where.{Where}
use Rattle.cond_units.specs.Items.{DeclaresItem}
use Rattle.link_faults.specs.SeenUnits.{name_seen}
use Rattle.cond_types.specs.Leaving.{name_behind, begun}
use Rattle.cond_types.specs.declared.units.TypedUnit.{TypedUnit}
use Rattle.cond_types.specs.declared.beginnings.UnitsSoFar.{UnitsSoFar}

-- a unit is declared to its end
abbrev pub all_to_end : ℕ → PlainTrees → UnitState → Checked UnitState
all_to_end globals parts unit = judged_to_end globals unit parts

abbrev pub DeclaresToEnd : ℕ → PlainTrees → SeenUnit → SeenUnit → Bool → Type 0
DeclaresToEnd globals parts = DeclaresItem (all_to_end globals parts) (Each file_item parts)

-- One more unit, with these items, is declared where this is true. What is known at its end is what it leaves.
pub record TakesUnit (on : ℕ → Bool) (here : Bool) (parts : PlainTrees) (old new : UnitsSoFar) : Type 0 where
  pub at_end : UnitTables
  pub left : TypedUnit
  pub found : Bool
  pub declares : (globals : ℕ) → Where here (DeclaresToEnd globals parts) (seen_unit on old.next) (seen_unit on at_end) found
  pub refused_is : value on (condition_of new.refused) ≡ (value on (condition_of old.refused) || found)
  pub units_are : new.units.items ≡ old.units.items ++ left ∷ []
  pub signatures_are : new.signatures.items ≡ old.signatures.items ++ at_end.tables.signatures.items
  pub next_is : seen_unit on new.next ≡ begun (seen_unit on at_end)
  pub when_is : value on (condition_of left.when) ≡ here
  pub names_are : (name : List ℕ) → name_seen on left.names name ≡ option_map (name_behind (length old.signatures.items)) ((seen_tables on at_end.tables).names name)
  pub defined_are : seen on (listed definition_form left.defined) ≡ seen on (listed definition_form at_end.defined)
