-- Names with their linkage, without pointers and room in memory.
use Rattle.std.specs.Prelude.{◌≡◌, List, map, Option}
use Rattle.std.specs.HashMap.{HashMap, get_by}
use Rattle.core_meaning.specs.Linking as spec
use Rattle.core_meaning.specs.Linking.{same_linked, place_where}
use Rattle.plain_numbers.specs.declared.places.Linked.{Linked}
use Rattle.plain_numbers.specs.declared.places.Listing.{Listing}

abbrev pub plain_linked : Linked → spec.Linked
plain_linked x = record { name = x.name.items; unit = x.unit }

abbrev pub plain_list : Listing → List spec.Linked
plain_list listing = map plain_linked listing.list.items

-- what a map has for a name with its linkage
abbrev pub entry_at : {X S : Type 0} → HashMap Linked X S → spec.Linked → Option X
entry_at map x = get_by (λ key. same_linked x (plain_linked key)) map

-- the map has the place of each name in the list
abbrev pub IsPlaced : Listing → Type 0
IsPlaced listing = (x : Linked) → entry_at listing.places (plain_linked x) ≡ place_where (same_linked (plain_linked x)) (plain_list listing)
