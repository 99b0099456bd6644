-- Uses of members with what declares the members (ISO/IEC 9899:2011, 6.5.2.3, 6.7.2.1): a use names a member of a struct, and the identifier of that
-- name declares it that stands among the members of the struct with that tag.
use Rattle.std.specs.Prelude.{ℕ, Bool, false, ◌&&◌, List, [], ◌∷◌, map, get_or, if◌then◌else◌}
use Rattle.std.specs.List.{flat_map}
use Rattle.std.specs.Str.{bytes_eq}
use Rattle.bindings.specs.Visible.{NameSpace, ordinary, tags, members_of}
use Rattle.type_tables.specs.declared.tables.Tables.{Tables}
use Rattle.member_uses.specs.Uses.{Use}
use Rattle.cond_scopes.specs.Progress.{number_or_none}
use Rattle.cond_pairings.specs.Pairs.{Pair}
use Rattle.changed_forests.specs.Numbered.{number_of}
use Rattle.cond_name_spaces.specs.Spaced.{InSpace}

-- the tag of the struct with a number
abbrev pub tag_of : Tables → ℕ → List ℕ
tag_of tables number = get_or (map (λ s. s.tag.items) tables.structs.items) number []

abbrev pub is_member_space : List ℕ → NameSpace → Bool
is_member_space tag ordinary = false
is_member_space tag tags = false
is_member_space tag (members_of struct) = bytes_eq struct tag

-- whether an identifier declares the member of this name of the struct with this tag
abbrev pub declares_member : List ℕ → List ℕ → InSpace → Bool
declares_member tag name n = is_member_space tag n.space && bytes_eq n.name.text.text name

abbrev pub pair_of : Use → InSpace → Pair
pair_of u n = record { identifier = number_of u.token; declared_by = number_or_none n.name.number }

-- a use, with each of these identifiers that declares what it uses
abbrev pub pairs_of_use : List ℕ → Use → List InSpace → List Pair
pairs_of_use tag u [] = []
pairs_of_use tag u (n ∷ rest) = if declares_member tag u.token.text n then pair_of u n ∷ pairs_of_use tag u rest else pairs_of_use tag u rest

abbrev pub pairs_of_uses : (ℕ → List ℕ) → List InSpace → List Use → List Pair
pairs_of_uses tag names uses = flat_map (λ u. pairs_of_use (tag u.structure) u names) uses
