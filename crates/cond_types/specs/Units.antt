-- What units are by their types, as a configuration sees it (ISO/IEC 9899:2011, 6.2.2, 6.7, 6.9).
use Rattle.std.specs.Prelude.{◌≡◌, ℕ, Bool, true, false, List, [], filter, Some, slice_get}
use Rattle.std.specs.List.{AllZip}
use Rattle.cond_formula.specs.Conditions.{condition_of, value}
use Rattle.conditional.specs.Entries.{seen, listed}
use Rattle.project_file.specs.declared.projects.Unit.{Unit}
use Rattle.core_meaning.specs.Checking.{Checked, fine}
use Rattle.core_meaning.specs.Entities.{Struct}
use Rattle.core_meaning.specs.Entities as scopes
use Rattle.core_meaning.specs.Linking.{Units}
use Rattle.core_meaning.specs.Linking as linking
use Rattle.type_tables.specs.Seen.{seen_tables}
use Rattle.type_tables.specs.declared.tables.Tables.{Tables}
use Rattle.type_tables.specs.Follows.{NameFollows, SortIsThere, StructFollows}
use Rattle.type_tables.specs.Definitions.{definition_form, plain_definitions}
use Rattle.link_faults.specs.SeenUnits.{name_seen}
use Rattle.cond_types.specs.declared.units.TypedUnit.{TypedUnit}
use Rattle.cond_types.specs.declared.units.TypedUnits.{TypedUnits}

-- What is seen of a unit says what it leaves, but for what its expressions use, where structs have other numbers.
pub record IsLeft (on : ℕ → Bool) (tables : Tables) (by : ℕ → ℕ) (structs : List Struct) (unit : linking.Unit) (left : TypedUnit) : Type 0 where
  pub names : (name : List ℕ) → NameFollows by (seen_tables on tables).signatures (unit.names name) (name_seen on left.names name)
  pub there : (name : List ℕ) (n : scopes.FileName) → unit.names name ≡ Some n → SortIsThere structs n.sort
  pub defined : plain_definitions unit.defined ≡ seen on (listed definition_form left.defined)

abbrev pub is_present : (ℕ → Bool) → TypedUnit → Bool
is_present on left = value on (condition_of left.when)

-- The units that are present leave, one by one, what these do, and each struct is one of the tables', by its number.
pub record AreLeft (on : ℕ → Bool) (linked : Units) (t : TypedUnits) : Type 0 where
  pub by : ℕ → ℕ
  pub units : AllZip (IsLeft on t.tables by linked.structs) linked.units (filter (is_present on) t.units.items)
  pub structs : (n : ℕ) (s : Struct) → slice_get linked.structs n ≡ Some s → StructFollows by (seen_tables on t.tables) linked.structs n s

-- what units are is what is seen of those that are present; or they are refused
abbrev pub AreTyped : (ℕ → Bool) → Checked Units → TypedUnits → Type 0
AreTyped on (fine linked bindings) t = (value on (condition_of t.refused) ≡ false) × AreLeft on linked t
AreTyped on other t = value on (condition_of t.refused) ≡ true
