-- What a configuration sees of what units leave for linking, and when that says what units do.
use Rattle.std.specs.Prelude.{◌≡◌, ℕ, Bool, true, false, not, ◌&&◌, List, [], map, filter, Option, Some, option_map}
use Rattle.std.specs.List.{list_any, AllZip}
use Rattle.std.specs.Str.{bytes_eq}
use Rattle.cond_formula.specs.Conditions.{condition_of, value}
use Rattle.conditional.specs.Entries.{seen, listed}
use Rattle.core_meaning.specs.Entities.{Struct, Signature}
use Rattle.core_meaning.specs.Entities as scopes
use Rattle.core_meaning.specs.UnitNames.{Body, object_body, tentative_body, Defined}
use Rattle.core_meaning.specs.Linking.{Unit, Units, is_available}
use Rattle.type_tables.specs.Tables.{FileName, sort_in}
use Rattle.type_tables.specs.Seen.{seen_tables}
use Rattle.type_tables.specs.Seen as in_tables
use Rattle.name_places.specs.Places.{place_of}
use Rattle.type_tables.specs.declared.tables.Tables.{Tables}
use Rattle.type_tables.specs.Follows.{NameFollows, SortIsThere}
use Rattle.type_tables.specs.Definitions.{PlainDefinition, definition_form, plain_definitions}
use Rattle.link_faults.specs.declared.left.LeftNames.{LeftNames}
use Rattle.link_faults.specs.declared.left.LeftUnit.{LeftUnit}
use Rattle.cond_bindings.specs.declared.unit_bindings.FileUse.{FileUse}

module _ (on : ℕ → Bool) where
  -- what a unit declares a name as, by its place among those that it declares somewhere
  abbrev pub name_seen : LeftNames → List ℕ → Option FileName
  name_seen names name = in_tables.name_in on names.declared.items name (place_of names.places name)

  -- an expression uses a name
  abbrev pub is_used : List FileUse → List ℕ → Bool
  is_used uses name = list_any (λ (u : FileUse). bytes_eq name u.name.items && value on (condition_of u.when)) uses

  abbrev pub is_present : LeftUnit → Bool
  is_present left = value on (condition_of left.when)

-- ---- as units

abbrev pub name_in : (ℕ → Signature) → FileName → scopes.FileName
name_in signatures n = record { sort = sort_in signatures n.sort; internal = n.internal }

-- what a definition gives doesn't matter, but whether it is tentative
abbrev pub body_of : Bool → Body
body_of true = tentative_body
body_of false = object_body []

abbrev pub definition_of : PlainDefinition → Defined
definition_of d = record { name = d.name; body = body_of d.tentative }

-- what is seen of a unit, its structs by their numbers in all configurations
abbrev pub unit_seen : (ℕ → Bool) → Tables → LeftUnit → Unit
unit_seen on tables left = record {
  names = λ name. option_map (name_in (seen_tables on tables).signatures) (name_seen on left.names name);
  order = [];
  defined = map definition_of (seen on (listed definition_form left.defined));
  uses = is_used on left.uses.items;
}

-- the units that are present, in order
abbrev pub units_seen : (ℕ → Bool) → Tables → List LeftUnit → List Unit
units_seen on tables units = map (unit_seen on tables) (filter (is_present on) units)

-- ---- what they say

-- What is seen of a unit says what a unit leaves, where structs have other numbers.
pub record LeavesAlike (on : ℕ → Bool) (tables : Tables) (by : ℕ → ℕ) (structs : List Struct) (unit : Unit) (left : LeftUnit) : Type 0 where
  pub names : (name : List ℕ) → NameFollows by (seen_tables on tables).signatures (unit.names name) (name_seen on left.names name)
  pub there : (name : List ℕ) (n : scopes.FileName) → unit.names name ≡ Some n → SortIsThere structs n.sort
  pub defined : plain_definitions unit.defined ≡ seen on (listed definition_form left.defined)
  pub uses : (name : List ℕ) → unit.uses name ≡ is_used on left.uses.items name

-- The units that are present leave, one by one, what these do.
abbrev pub LeaveAlike : (ℕ → Bool) → Tables → (ℕ → ℕ) → Units → List LeftUnit → Type 0
LeaveAlike on tables by linked units = AllZip (LeavesAlike on tables by linked.structs) linked.units (filter (is_present on) units)

-- a unit uses a name that isn't available
abbrev pub is_undefined : List Unit → List ℕ → Unit → Bool
is_undefined units name unit = unit.uses name && not (is_available units unit name)
