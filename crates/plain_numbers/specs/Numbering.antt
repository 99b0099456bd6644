-- The numbers of objects and functions, as maps have them.
use Rattle.std.specs.Prelude.{◌≡◌, ℕ, ◌+◌, Bool, true, false, List, [], ◌∷◌, map, filter, Option, Some, None, ⊤, if◌then◌else◌}
use Rattle.std.specs.List.{list_any}
use Rattle.std.specs.Str.{bytes_eq}
use Rattle.core_meaning.specs.Linking as spec
use Rattle.core_meaning.specs.Linking.{Unit, Linked, linked_in, is_wanted, same_linked, place_where, number_in}
use Rattle.plain_scope.specs.PlainScope.{entry_of}
use Rattle.plain_scope.specs.declared.entities.Numbers.{Numbers}
use Rattle.plain_numbers.specs.declared.places.Listing.{Listing}
use Rattle.plain_numbers.specs.PlainLinked.{plain_list, IsPlaced}

-- the names of a unit that have numbers, among these
abbrev pub wanted_in : List Unit → Bool → ℕ → Unit → List (List ℕ) → List Linked
wanted_in units functions index unit names = map (linked_in index unit) (filter (is_wanted units functions unit) names)

pub record IsListed (listing : Listing) (units : List Unit) (functions : Bool) : Type 0 where
  pub placed : IsPlaced listing
  pub list : plain_list listing ≡ spec.listed units functions

-- a name's number, if the unit has it among these names
abbrev pub number_for : List Linked → List Unit → Bool → ℕ → Unit → List (List ℕ) → List ℕ → Option ℕ
number_for known units functions index unit names name =
    if list_any (bytes_eq name) (filter (is_wanted units functions unit) names) then place_where (same_linked (linked_in index unit name)) known else None

-- a number is put beside others, if there is one
abbrev pub with_number : Option ℕ → (List ℕ → Option ℕ) → List ℕ → List ℕ → Option ℕ
with_number None numbers name other = numbers other
with_number (Some n) numbers name other = if bytes_eq name other then Some n else numbers other

-- one unit's numbers
pub record UnitNumbered (units : List Unit) (index : ℕ) (numbers : Numbers) (unit : Unit) : Type 0 where
  pub globals : (name : List ℕ) → entry_of numbers.globals name ≡ number_in units false index (Some unit) name
  pub functions : (name : List ℕ) → entry_of numbers.functions name ≡ number_in units true index (Some unit) name

-- each unit's numbers, from one on
abbrev pub AreNumbered : List Unit → ℕ → List Numbers → List Unit → Type 0
AreNumbered units index [] [] = ⊤
AreNumbered units index [] (unit ∷ rest) = ⊥
AreNumbered units index (numbers ∷ others) [] = ⊥
AreNumbered units index (numbers ∷ others) (unit ∷ rest) = UnitNumbered units index numbers unit × AreNumbered units (index + 1) others rest
