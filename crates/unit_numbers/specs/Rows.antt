-- Worked examples, no part of the definitions: units that are written with a blank between two tokens, and the entities to which their
-- identifiers are bound, by hand.
use Rattle.std.specs.Prelude.{◌≡◌, ℕ, false, List, [], ◌∷◌, map, codes, Option, Some, None}
use Rattle.c_tree.specs.Trees.{PlainTree}
use Rattle.c_tree.specs.Machine.{read, of_trees}
use Rattle.core_meaning.specs.Checking.{Entity, local_of_function, file_entity, struct_entity, member_entity, own_entity, Binding}
use Rattle.core_meaning.specs.Entities.{Struct}
use Rattle.bindings.specs.Rows.{tokens_of}
use Rattle.entity_numbers.specs.Numbered.{AreNumbered}
use Rattle.entity_numbers.specs.Kinds.{AreKindsAlike}
use Rattle.program_occurrences.specs.Occurrences.{judged_bindings, structs_behind, judged_behind}
use Rattle.unit_numbers.specs.Laws.{counts_behind}

abbrev pub entities_by : List Struct → Option PlainTree → List Entity
entities_by structs None = []
entities_by structs (Some tree) = map (λ b. b.entity) (judged_bindings (judged_behind structs tree))

-- the identifiers of the text, behind these structs, are bound to these entities
abbrev pub IsBoundTo : List Struct → List ℕ → List Entity → Type 0
IsBoundTo structs text expected = entities_by structs (read of_trees (tokens_of text)) ≡ expected

-- a struct with its members, a prototype whose parameter is its own, and a function with its slots, those of its inner block last
abbrev pub EntitiesAreNumbered : Type 0
EntitiesAreNumbered =
    IsBoundTo [] (codes "struct S { int a ; int b ; } ; int f ( int n ) ; int f ( int n ) { struct S s ; s . b = n ; { int k ; k = s . a ; return k ; } }")
    (struct_entity 0 ∷ member_entity 0 0 ∷ member_entity 0 1 ∷ file_entity (codes "f") ∷ own_entity ∷ file_entity (codes "f") ∷ local_of_function 0 0
    ∷ struct_entity 0 ∷ local_of_function 0 1 ∷ local_of_function 0 1 ∷ member_entity 0 1 ∷ local_of_function 0 0
    ∷ local_of_function 0 2 ∷ local_of_function 0 2 ∷ local_of_function 0 1 ∷ member_entity 0 0 ∷ local_of_function 0 2 ∷ [])

abbrev pub structs_of : Option PlainTree → List Struct
structs_of None = []
structs_of (Some tree) = structs_behind [] (judged_behind [] tree)

-- Behind the structs of another unit numbers go on; a tag that is named before its definition has the number of its first place.
abbrev pub NumbersGoOn : Type 0
NumbersGoOn =
    IsBoundTo (structs_of (read of_trees (tokens_of (codes "struct S { int a ; } ; struct T ;")))) (codes "struct T * p ; struct S { int b ; struct T * a ; } ; struct T { int c ; } ;")
    (struct_entity 2 ∷ file_entity (codes "p") ∷ struct_entity 3 ∷ member_entity 3 0 ∷ struct_entity 2 ∷ member_entity 3 1 ∷ struct_entity 2 ∷ member_entity 2 0 ∷ [])

-- where a number is left out entities aren't numbered
abbrev pub NoneIsLeftOut : Type 0
NoneIsLeftOut = AreNumbered (counts_behind []) [] (record { entity = struct_entity 1; in_expression = false } ∷ []) → ⊥

-- ---- kinds

abbrev pub same_entities : List Entity
same_entities =
    struct_entity 0 ∷ member_entity 0 0 ∷ struct_entity 1 ∷ struct_entity 0 ∷ member_entity 1 0 ∷ member_entity 1 1 ∷ file_entity (codes "f") ∷ own_entity
    ∷ file_entity (codes "g") ∷ local_of_function 0 0 ∷ local_of_function 0 1 ∷ local_of_function 0 1 ∷ local_of_function 0 0
    ∷ file_entity (codes "f") ∷ local_of_function 1 0 ∷ struct_entity 1 ∷ local_of_function 1 1 ∷ local_of_function 1 1 ∷ member_entity 1 0 ∷ member_entity 0 0 ∷ local_of_function 1 0
    ∷ local_of_function 1 1 ∷ member_entity 1 1 ∷ []

-- Whatever the names are, identifiers at one place stand for things of one kind: members of a struct in another's, a prototype's parameter,
-- slots of two functions, and a local that hides another or doesn't.
abbrev pub KindsStandAtPlaces : Type 0
KindsStandAtPlaces =
    IsBoundTo [] (codes "struct S { int a ; } ; struct T { struct S s ; int b ; } ; int f ( int n ) ; int g ( int n ) { { int n ; n = 1 ; } return n ; } int f ( int m ) { struct T t ; t . s . a = m ; return t . b ; }")
    same_entities
    × IsBoundTo [] (codes "struct A { int x ; } ; struct B { struct A x ; int y ; } ; int f ( int x ) ; int g ( int x ) { { int y ; y = 1 ; } return x ; } int f ( int A ) { struct B B ; B . x . x = A ; return B . y ; }")
    same_entities

abbrev pub declared : Entity → Binding
declared entity = record { entity = entity; in_expression = false }

-- Members are alike where their structs are named at one place before, whatever numbers these have; with none named they aren't.
abbrev pub MembersAreOfTiedStructs : Type 0
MembersAreOfTiedStructs =
    AreKindsAlike [] (declared (struct_entity 0) ∷ declared (member_entity 0 0) ∷ []) (declared (struct_entity 3) ∷ declared (member_entity 3 0) ∷ [])
    × (AreKindsAlike [] (declared (member_entity 0 0) ∷ []) (declared (member_entity 0 0) ∷ []) → ⊥)
