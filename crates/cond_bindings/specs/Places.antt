-- Places in a unit's list of declarations.
use Rattle.std.specs.Prelude.{◌≡◌, ℕ, Bool, true, ◌&&◌, List, [], ◌∷◌, map, reverse, Option, Some, None, nat_lt, if◌then◌else◌}
use Rattle.std.specs.List.{list_all}
use Rattle.std.specs.Str.{bytes_eq}
use Rattle.cond_bindings.specs.declared.unit_bindings.Identifier.{Identifier}
use Rattle.cond_bindings.specs.declared.unit_bindings.Meaning.{Meaning}
use Rattle.cond_bindings.specs.declared.unit_bindings.Meaning.TheVariants.{Use, Declares}
use Rattle.cond_bindings.specs.declared.locals.LocalName.{LocalName}

-- a name that a block declares, and the place of its declaration
pub record LocalPlace : Type 0 where
  pub name : List ℕ
  pub place : ℕ

abbrev pub local_place : LocalName → LocalPlace
local_place l = record { name = l.name.items; place = l.place }

abbrev pub latest_first : List LocalName → List LocalPlace
latest_first locals = reverse (map local_place locals)

abbrev pub innermost_in : List LocalPlace → List ℕ → Option ℕ
innermost_in [] name = None
innermost_in (l ∷ outer) name = if bytes_eq name l.name then Some l.place else innermost_in outer name

-- ---- places of a list that has so many declarations

abbrev pub is_below : ℕ → Option ℕ → Bool
is_below count None = true
is_below count (Some place) = nat_lt place count

abbrev pub meaning_below : ℕ → Meaning → Bool
meaning_below count (Use block file) = is_below count block && is_below count file
meaning_below count (Declares earlier) = is_below count earlier

abbrev pub identifier_below : ℕ → Identifier → Bool
identifier_below count i = meaning_below count i.meaning

abbrev pub local_below : ℕ → LocalPlace → Bool
local_below count l = nat_lt l.place count

abbrev pub TableBelow : ℕ → (List ℕ → Option ℕ) → Type 0
TableBelow count table = (name : List ℕ) → is_below count (table name) ≡ true

abbrev pub IdentifiersBelow : ℕ → List Identifier → Type 0
IdentifiersBelow count identifiers = list_all (identifier_below count) identifiers ≡ true

abbrev pub LocalsBelow : ℕ → List LocalName → Type 0
LocalsBelow count locals = list_all (local_below count) (latest_first locals) ≡ true
