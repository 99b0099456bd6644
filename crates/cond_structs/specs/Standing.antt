-- How what is gathered stands beside the definitions, and what comes of a struct's definition (ISO/IEC 9899:2011, 6.7.2.1).
use Rattle.std.specs.Prelude.{◌≡◌, ℕ, Bool, true, false, List, map, Some, slice_get}
use Rattle.c_tree.specs.Trees.{PlainTree, PlainTrees, leaf, node, none}
use Rattle.core_meaning.specs.Checking.{Checked, fine, refused, broken}
use Rattle.core_meaning.specs.Entities.{Struct}
use Rattle.core_meaning.specs.UnitNames.{Members, AllMembers, UnitState}
use Rattle.declaration_readings.specs.Readings.{Going}
use Rattle.type_tables.specs.Tables.{Tables}
use Rattle.type_tables.specs.Follows.{AreThere, types_of, place_of, renumbered_member, Follows}
use Rattle.type_tables.specs.Numbers.{NumbersKept}
use Rattle.cond_structs.specs.Gathered.{Gathered}

-- these members are gathered, where structs have these numbers
pub record Gathers (by : ℕ → ℕ) (structs : List Struct) (g : Gathered) (known : Members) : Type 0 where
  pub members : g.members ≡ map (renumbered_member by) known.members
  pub scalars : g.scalars ≡ known.scalars
  pub numbers : (name : List ℕ) → known.numbers name ≡ place_of known.members name
  pub there : AreThere structs (types_of known.members)

pub record GathersSoFar (by : ℕ → ℕ) (structs : List Struct) (g : Gathered) (k : Going Members) : Type 0 where
  pub refused : g.refused ≡ k.refused
  pub gathers : k.refused ≡ false → Gathers by structs g k.state

-- the structs that were there are there still
abbrev pub Keep : List Struct → List Struct → Type 0
Keep before now = (n : ℕ) (s : Struct) → slice_get before n ≡ Some s → (s : Struct) × (slice_get now n ≡ Some s)

-- the tables follow what is visible behind some declarations, where the structs that were there before have these numbers, and their
-- members are gathered
pub record StandsAt (by : ℕ → ℕ) (before : List Struct) (t : Tables) (g : Gathered) (s : AllMembers) : Type 0 where
  pub follows : Follows t s.scope
  pub kept : NumbersKept before by follows.by
  pub keep : Keep before s.scope.structs
  pub gathers : Gathers follows.by s.scope.structs g s.known

pub record StandsSoFar (by : ℕ → ℕ) (before : List Struct) (t : Tables) (g : Gathered) (k : Going AllMembers) : Type 0 where
  pub refused : g.refused ≡ k.refused
  pub stands : k.refused ≡ false → StandsAt by before t g k.state

-- ---- the definition

abbrev pub parts_of : PlainTree → PlainTrees
parts_of (node kind parts) = parts
parts_of (leaf token) = none

-- a struct is defined, and the tables follow what is visible behind it
pub record IsDefined (before : List Struct) (by : ℕ → ℕ) (new : Tables) (refused : Bool) (unit : UnitState) : Type 0 where
  pub accepted : refused ≡ false
  pub follows : Follows new unit.scope
  pub kept : NumbersKept before by follows.by

-- what comes of a definition, in a scope with these structs, which the tables followed with these numbers
abbrev pub DefinesStruct : List Struct → (ℕ → ℕ) → Tables → Bool → Checked UnitState → Type 0
DefinesStruct before by new is_refused (fine unit bindings) = IsDefined before by new is_refused unit
DefinesStruct before by new is_refused (refused kind token) = is_refused ≡ true
DefinesStruct before by new is_refused broken = is_refused ≡ true
