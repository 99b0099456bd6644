-- What a name of file scope stands for already, beside a declaration of it, as the tables tell it (ISO/IEC 9899:2011, 6.2.2, 6.2.7, 6.7).
use Rattle.std.specs.Prelude.{ℕ, Bool, true, false, not, ◌&&◌, Option, Some, None}
use Rattle.c_types.specs.Types.{PlainType, void}
use Rattle.core_meaning.specs.Entities as scopes
use Rattle.core_meaning.specs.Entities.{Signature}
use Rattle.core_meaning.specs.Typing.{same_type}
use Rattle.core_meaning.specs.UnitNames.{Storage, same_sort, same_bool, linkage}
use Rattle.type_tables.specs.Tables.{Sort, object, declared_function, FileName, sort_in}

-- functions by the numbers of their declarations
module _ (signatures : ℕ → Signature) where
  abbrev pub is_same_sort : Sort → Sort → Bool
  is_same_sort a b = same_sort (sort_in signatures a) (sort_in signatures b)

  -- the name stands for a function that returns this type
  abbrev pub returns_so : PlainType → Sort → Bool
  returns_so ty (object other) = false
  returns_so ty (declared_function number) = same_type (signatures number).result ty

abbrev pub is_function : Sort → Bool
is_function (object ty) = false
is_function (declared_function number) = true

-- a declaration with this storage has the linkage that the name has
abbrev pub keeps_linkage : Storage → Bool → Bool → Bool
keeps_linkage storage of_function internal =
    same_bool internal (linkage storage of_function (Some (record { sort = scopes.variable void; internal = internal })))

-- A declaration as this sort is none of what the name stands for already.
abbrev pub differs : (ℕ → Signature) → Storage → Sort → FileName → Bool
differs signatures storage sort visible = not (is_same_sort signatures visible.sort sort && keeps_linkage storage (is_function sort) visible.internal)

-- a function that returns this type is none of what the name stands for already
abbrev pub is_no_such_function : (ℕ → Signature) → Storage → PlainType → FileName → Bool
is_no_such_function signatures storage ty visible = not (returns_so signatures ty visible.sort && keeps_linkage storage true visible.internal)

-- two parameters, which are refused where their types differ
abbrev pub unless_same : Bool → Option (Unit {0})
unless_same true = None
unless_same false = Some tt

-- what there is conflicts
abbrev pub conflicting : (FileName → Bool) → Option FileName → Bool
conflicting conflicts None = false
conflicting conflicts (Some visible) = conflicts visible
