-- What a configuration sees of a unit up to a place.
use Rattle.std.specs.Prelude.{ℕ, Bool, List, Option, option_map}
use Rattle.c_tree.specs.Trees.{PlainTree}
use Rattle.choice_trees.specs.ChoiceTrees.{plain_item, item_at}
use Rattle.conditional.specs.Entries.{seen, listed}
use Rattle.type_tables.specs.Tables.{Tables}
use Rattle.type_tables.specs.Seen.{seen_tables}
use Rattle.type_tables.specs.Definitions.{PlainDefinition, definition_form}
use Rattle.cond_units.specs.declared.units.UnitTables.{UnitTables}
use Rattle.cond_units.specs.declared.units.ObjectDeclaration.{ObjectDeclaration}

-- what is known at a place of a unit, and what has been defined before it
pub record SeenUnit : Type 0 where
  pub tables : Tables
  pub defined : List PlainDefinition

abbrev pub seen_unit : (ℕ → Bool) → UnitTables → SeenUnit
seen_unit on unit = record { tables = seen_tables on unit.tables; defined = seen on (listed definition_form unit.defined) }

-- the initialiser of a declaration, if it has one
abbrev pub initialiser_at : {B : Type 0} → (ℕ → Bool) → ObjectDeclaration B → Option PlainTree
initialiser_at on d = option_map (λ item. item_at on (plain_item item.now)) d.initialiser
