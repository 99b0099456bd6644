-- What names stand for (ISO/IEC 9899:2011, 6.2.1 to 6.2.3): three name spaces, for tags, for the members of each struct, and for all other names.
use Rattle.std.specs.Prelude.{ℕ, Bool, List, [], ◌∷◌, map, Option, Some, None, if◌then◌else◌}
use Rattle.std.specs.Str.{bytes_eq}
use Rattle.c_types.specs.Types.{PlainType}
use Rattle.c_types.specs.Tags.{PlainMember, PlainTag}

-- what names stand for, if anything
abbrev pub Table : Type 0 → Type 0
Table A = List ℕ → Option A

abbrev pub no_entry : {A : Type 0} → List ℕ → Option A
no_entry name = None

abbrev pub with_entry : {A : Type 0} → Table A → List ℕ → A → Table A
with_entry table name entry other = if bytes_eq other name then Some entry else table other

pub record Struct : Type 0 where
  pub name : List ℕ
  pub members : List PlainMember
  -- the members' numbers
  pub numbers : Table ℕ
  pub complete : Bool
  -- how many scalars an object of the struct has
  pub scalars : ℕ

-- a parameter or local
pub record Local : Type 0 where
  pub slot : ℕ
  pub ty : PlainType

pub record Signature : Type 0 where
  pub result : PlainType
  pub parameters : List PlainType

-- an object or a function
pub data Sort : Type 0 where
  variable : PlainType → Sort
  function : Signature → Sort

-- a name of file scope
pub record FileName : Type 0 where
  pub sort : Sort
  -- it has internal linkage (6.2.2)
  pub internal : Bool

-- the numbers that a core program has for the names of a unit, and for texts by their bytes
pub record Numbers : Type 0 where
  pub globals : Table ℕ
  pub functions : Table ℕ
  pub literals : Table ℕ

-- What is visible at a place of a unit. Structs are numbered through all units.
pub record Scope : Type 0 where
  pub structs : List Struct
  pub tags : Table ℕ
  pub file_names : Table FileName
  -- the names of file scope in the order of their first declarations
  pub order : List (List ℕ)
  -- the locals of each block, those of the innermost first
  pub blocks : List (Table Local)
  pub numbers : Numbers

abbrev pub or_else : {A : Type 0} → Option A → Option A → Option A
or_else (Some x) other = Some x
or_else None other = other

abbrev pub local_in : List (Table Local) → List ℕ → Option Local
local_in [] name = None
local_in (innermost ∷ others) name = or_else (innermost name) (local_in others name)

-- a name that has no number has the number 0, while numbers aren't known yet
abbrev pub entity_number : Table ℕ → List ℕ → ℕ
entity_number numbers name = elim (numbers name) as (λ x. ℕ) [ Some n ↦ n | None ↦ 0 ]

-- the structs as a table of tags
abbrev pub tags_of : List Struct → List PlainTag
tags_of structs = map (λ s. record { name = s.name; members = s.members; complete = s.complete }) structs
