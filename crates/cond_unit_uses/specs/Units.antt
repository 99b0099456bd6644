-- The uses of members in all units of a project, as a configuration sees them (ISO/IEC 9899:2011, 6.2.2, 6.5.2.3, 6.9).
use Rattle.std.specs.Prelude.{◌≡◌, ℕ, ◌+◌, Bool, List, [], ◌∷◌, map, Some, slice_get, if◌then◌else◌}
use Rattle.cond_formula.specs.Conditions.{condition_of, value}
use Rattle.c_tree.specs.Trees.{PlainTree, PlainTrees}
use Rattle.project_file.specs.declared.projects.Unit.{Unit}
use Rattle.core_meaning.specs.Checking.{Checked, fine}
use Rattle.core_meaning.specs.Entities.{Struct, Numbers}
use Rattle.core_meaning.specs.UnitNames.{UnitState, judged_unit}
use Rattle.operand_types.specs.Laws.{KeepsApart}
use Rattle.member_uses.specs.Uses.{Use, uses_in}
use Rattle.type_tables.specs.Seen.{seen_tables}
use Rattle.type_tables.specs.Follows.{StructFollows}
use Rattle.cond_units.specs.Seen.{SeenUnit}
use Rattle.cond_types.specs.Leaving.{begun}
use Rattle.cond_unit_uses.specs.Noted.{uses_at, Where, NotesItems}
use Rattle.cond_unit_uses.specs.declared.units.UnitUses.{UnitUses}

-- the structs behind a unit; one that is refused leaves those before it
abbrev pub structs_behind : List Struct → Checked UnitState → List Struct
structs_behind structs (fine unit bindings) = unit.scope.structs
structs_behind structs other = structs

-- the uses in each unit, behind the structs of the units before it, where the first has this number
abbrev pub uses_in_units : (ℕ → ℕ) → (ℕ → Numbers) → ℕ → ℕ → List Struct → List PlainTree → List (List Use)
uses_in_units by numbers globals index structs [] = []
uses_in_units by numbers globals index structs (tree ∷ rest) =
    uses_in by tree (judged_unit globals structs (numbers index) tree)
    ∷ uses_in_units by numbers globals (index + 1) (structs_behind structs (judged_unit globals structs (numbers index) tree)) rest

-- what the units have that are present; one that is absent has nothing
abbrev pub of_units : (ℕ → Bool) → List Unit → List (List Use) → List (List Use)
of_units on [] all = []
of_units on (unit ∷ units) [] = [] ∷ of_units on units []
of_units on (unit ∷ units) (uses ∷ rest) = if value on (condition_of unit.when) then uses ∷ of_units on units rest else [] ∷ of_units on units (uses ∷ rest)

-- Units have these uses, and each of these structs is one of the tables', by its number.
pub record AreNoted (on : ℕ → Bool) (structs : List Struct) (units : List Unit) (uses : (ℕ → ℕ) → List (List Use)) (noted : UnitUses) : Type 0 where
  pub by : ℕ → ℕ
  pub apart : KeepsApart by
  pub uses_are : map (uses_at on) noted.units.items ≡ of_units on units (uses by)
  pub structs_are : (n : ℕ) (s : Struct) → slice_get structs n ≡ Some s → StructFollows by (seen_tables on noted.tables) structs n s

-- One more unit, with these items, is declared where this is true and its uses are noted. What is known at its end is what it leaves.
pub record TakesUnit (here : Bool) (parts : PlainTrees) (old new : SeenUnit) (uses : List Use) : Type 0 where
  pub at_end : SeenUnit
  pub notes : (globals : ℕ) → Where here (NotesItems globals parts) (record { unit = old; uses = [] }) (record { unit = at_end; uses = uses })
  pub next_is : new ≡ begun at_end
