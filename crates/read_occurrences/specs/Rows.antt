-- Worked examples, no part of the definitions: a unit that is written with a blank between two tokens, which have the numbers from 100 on in its
-- stream, and what is read of it.
use Rattle.std.specs.Prelude.{◌≡◌, ℕ, ◌+◌, List, [], ◌∷◌, codes, Option, Some, None, slice_get}
use Rattle.c_text.specs.Token.{PlainToken}
use Rattle.c_tree.specs.Trees.{PlainTree}
use Rattle.c_tree.specs.Machine.{read, of_trees}
use Rattle.core_meaning.specs.Entities.{Struct}
use Rattle.bindings.specs.Rows.{tokens_of}
use Rattle.choice_trees.specs.Leaves.{Leaf, texts}
use Rattle.cond_pairings.specs.Pairs.{Pair}
use Rattle.changed_forests.specs.Numbered.{numbering}
use Rattle.program_occurrences.specs.Occurrences.{names_of_unit, judged_behind, structs_behind, CommonName, external_name, tag, member_of}
use Rattle.told_occurrences.specs.Told.{NumberedName}
use Rattle.read_occurrences.specs.Read.{names_read}
use Rattle.read_occurrences.specs.Laws.{names_in_spaces, unit_pairs}

abbrev pub leaves_from : ℕ → List PlainToken → List Leaf
leaves_from number [] = []
leaves_from number (token ∷ rest) = record { number = Some number; text = numbering number token } ∷ leaves_from (number + 1) rest

abbrev pub leaves_of : List ℕ → List Leaf
leaves_of text = leaves_from 100 (tokens_of text)

-- structs have their own numbers
abbrev pub own : ℕ → ℕ
own n = n

abbrev pub name_of : Option Struct → List ℕ
name_of None = []
name_of (Some struct) = struct.name

abbrev pub tag_in : List Struct → ℕ → List ℕ
tag_in structs n = name_of (slice_get structs n)

abbrev pub pairs_in : List Leaf → Option PlainTree → List Pair
pairs_in leaves None = []
pairs_in leaves (Some tree) = unit_pairs leaves [] tree own (tag_in (structs_behind [] (judged_behind [] tree)))

abbrev pub names_in : List Leaf → Option PlainTree → List NumberedName
names_in leaves None = []
names_in leaves (Some tree) = names_read (names_of_unit tree (judged_behind [] tree)) (pairs_in leaves (Some tree)) (names_in_spaces leaves tree)

abbrev pub pair : ℕ → ℕ → Pair
pair identifier by = record { identifier = identifier; declared_by = by }

-- two structs with a member of one name, a name with internal linkage, and a function that uses them
abbrev pub unit : List ℕ
unit =
    codes "struct S { int m ; } ; struct T { struct S * n ; int m ; } ; static int k ; int f ( struct T * p ) { return p -> n -> m + p -> m + k ; }"

-- Behind what the bindings tell come the uses of members: each is paired with the member of the struct that the types tell.
abbrev pub MembersArePaired : Type 0
MembersArePaired =
    pairs_in (leaves_of unit) (read of_trees (texts (leaves_of unit)))
    ≡ pair 101 101 ∷ pair 104 104 ∷ pair 109 109 ∷ pair 112 101 ∷ pair 114 114 ∷ pair 117 117 ∷ pair 123 123 ∷ pair 126 126 ∷ pair 129 109 ∷ pair 131 131 ∷ pair 135 131
    ∷ pair 141 131 ∷ pair 145 123 ∷ pair 137 114 ∷ pair 139 104 ∷ pair 143 117 ∷ []

abbrev pub named : ℕ → CommonName → NumberedName
named number name = record { number = number; name = name }

-- A tag that names a struct which is declared before declares nothing, and a name with internal linkage is the unit's own.
abbrev pub NamesAreTold : Type 0
NamesAreTold =
    names_in (leaves_of unit) (read of_trees (texts (leaves_of unit)))
    ≡ named 101 (tag (codes "S")) ∷ named 104 (member_of (codes "S") (codes "m")) ∷ named 109 (tag (codes "T")) ∷ named 114 (member_of (codes "T") (codes "n"))
    ∷ named 117 (member_of (codes "T") (codes "m")) ∷ named 126 (external_name (codes "f")) ∷ []
