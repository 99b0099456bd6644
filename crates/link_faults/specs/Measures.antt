-- What is counted and asked of entries and units.
use Rattle.std.specs.Prelude.{◌≡◌, ℕ, ◌+◌, Bool, false, not, ◌&&◌, List, map, Option, Some, None, if◌then◌else◌}
use Rattle.std.specs.List.{list_any}
use Rattle.std.specs.Str.{bytes_eq}
use Rattle.conditional.specs.Entries.{Entry, seen, entries_of}
use Rattle.conditional.specs.declared.entries.Guarded.{Guarded}
use Rattle.cond_formula.specs.Conditions.{value}
use Rattle.core_meaning.specs.Linking.{Unit, count_whole, is_internal, is_main, defines}
use Rattle.type_tables.specs.Tables.{FileName}
use Rattle.type_tables.specs.Definitions.{definition_form}
use Rattle.type_tables.specs.declared.definitions.Definition.{Definition}
use Rattle.link_faults.specs.declared.several.Several.{Several}
use Rattle.link_faults.specs.Several.{Count}
use Rattle.link_faults.specs.SeenUnits.{definition_of}

-- how many definitions of a name aren't tentative
abbrev pub whole_in : (ℕ → Bool) → List ℕ → List (Guarded Definition) → ℕ
whole_in on name entries = count_whole (map definition_of (seen on (entries_of definition_form entries))) name

-- a name is defined
abbrev pub defined_in : (ℕ → Bool) → List ℕ → List (Guarded Definition) → Bool
defined_in on name entries = list_any (λ d. bytes_eq d.name name) (map definition_of (seen on (entries_of definition_form entries)))

-- some value that is there is so
abbrev pub some_so : (FileName → Bool) → (ℕ → Bool) → List (Entry FileName) → Bool
some_so test on entries = list_any (λ (e : Entry FileName). value on e.when && test e.what) entries

-- a name is declared, and so
abbrev pub is_so : (FileName → Bool) → Option FileName → Bool
is_so test None = false
is_so test (Some n) = test n

-- a unit uses a name that isn't available, where it is said whether other units and headers define it
abbrev pub is_lacking : Bool → List ℕ → Unit → Bool
is_lacking elsewhere name unit = unit.uses name && not (if is_internal unit name then defines unit name else elsewhere)

-- a unit defines a name as `main` is defined
abbrev pub defines_as_main : List ℕ → Unit → Bool
defines_as_main name unit = elim (unit.names name) as (λ x. Bool) [ None ↦ false | Some n ↦ not n.internal && is_main n.sort && defines unit name ]

-- there are so many so far, and these with the rest make all
pub record SoFar (on : ℕ → Bool) (s : Several) (rest all : ℕ) : Type 0 where
  pub before : ℕ
  pub counted : Count on s before
  pub sum : before + rest ≡ all
