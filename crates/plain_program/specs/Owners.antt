-- The units that define names.
use Rattle.std.specs.Prelude.{ℕ, ◌+◌, List, [], ◌∷◌, Option, Some, None, slice_get, if◌then◌else◌}
use Rattle.c_types.specs.Types.{PlainType, void}
use Rattle.core_meaning.specs.Linking.{Unit, Linked, defines_linked, sort_in, type_of_sort}

-- the number of the first unit that defines a name, of the units from one on
abbrev pub owner_from : Linked → ℕ → List Unit → Option ℕ
owner_from e index [] = None
owner_from e index (unit ∷ rest) = if defines_linked e index unit then Some index else owner_from e (index + 1) rest

abbrev pub type_in : Option Unit → List ℕ → PlainType
type_in None name = void
type_in (Some unit) name = type_of_sort (sort_in unit name)

abbrev pub unit_in : List Unit → Option ℕ → Option Unit
unit_in units None = None
unit_in units (Some index) = slice_get units index

-- the type of a name in the unit with this number
abbrev pub type_at : List Unit → Linked → PlainType
type_at units key = type_in (unit_in units key.unit) key.name

-- a name under the number of the unit that defines it
abbrev pub key_in : List Unit → Linked → Linked
key_in units e = record { name = e.name; unit = owner_from e 0 units }
