-- Worked examples, no part of the definitions: programs whose units are written with a blank between two tokens, and what their identifiers
-- are bound and linked to.
use Rattle.std.specs.Prelude.{◌≡◌, ◌⊎◌, ℕ, ◌+◌, List, [], ◌∷◌, ◌++◌, map, take, drop, codes, Option, Some, None}
use Rattle.c_text.specs.Token.{PlainToken}
use Rattle.c_tree.specs.Trees.{PlainTree}
use Rattle.c_tree.specs.Machine.{read, of_trees}
use Rattle.core_meaning.specs.declared.program.BuiltIn.{BuiltIn}
use Rattle.core_meaning.specs.declared.program.BuiltIn.TheVariants.{Putchar}
use Rattle.bindings.specs.Rows.{words_from, token_of, tokens_of}
use Rattle.program_occurrences.specs.Occurrences.{UnitNames, names_of_units}
use Rattle.program_occurrences.specs.Classes.{PlainFileToken, IsBrought}
use Rattle.program_occurrences.specs.Links.{BoundNumber, bound_numbers, Link, links_of}

abbrev pub with_tree : Option PlainTree → List PlainTree → List PlainTree
with_tree None others = others
with_tree (Some tree) others = tree ∷ others

abbrev pub trees_of : List (List ℕ) → List PlainTree
trees_of [] = []
trees_of (text ∷ texts) = with_tree (read of_trees (tokens_of text)) (trees_of texts)

abbrev pub names_in : List (List ℕ) → List UnitNames
names_in texts = names_of_units (trees_of texts)

abbrev pub bound : ℕ → ℕ → BoundNumber
bound identifier by = record { identifier = identifier; declared_by = by }

-- the units bind their identifiers so
abbrev pub Bind : List (List ℕ) → List (List BoundNumber) → Type 0
Bind texts expected = map bound_numbers (names_in texts) ≡ expected

abbrev pub link : ℕ → ℕ → ℕ → ℕ → Option BuiltIn → Link
link unit number first_unit first_number built_in =
    record { unit = unit; number = number; first_unit = first_unit; first_number = first_number; built_in = built_in }

-- and their declarations are linked so
abbrev pub LinkTo : List (List ℕ) → List Link → Type 0
LinkTo texts expected = links_of (names_in texts) ≡ expected

-- a member that is used is bound to the one that the types tell; a struct is one before and behind its definition
abbrev pub MembersAreBound : Type 0
MembersAreBound =
    Bind (codes "struct S * p ; struct S { int m ; struct S * n ; } ; int f ( void ) { return p -> n -> m ; }" ∷ [])
    ((bound 1 1 ∷ bound 3 3 ∷ bound 6 1 ∷ bound 9 9 ∷ bound 12 1 ∷ bound 14 14 ∷ bound 19 19 ∷ bound 25 3 ∷ bound 27 14 ∷ bound 29 9 ∷ []) ∷ [])

-- a parameter of a declaration that defines no function stands for itself alone
abbrev pub PrototypesHaveTheirOwn : Type 0
PrototypesHaveTheirOwn =
    Bind (codes "int f ( int n ) ; int f ( int n ) { return n ; }" ∷ [])
    ((bound 1 1 ∷ bound 4 4 ∷ bound 8 1 ∷ bound 11 11 ∷ bound 15 11 ∷ []) ∷ [])

-- Where a block declares the new name, a use that gets this name is bound to what the block declares.
abbrev pub BlocksCapture : Type 0
BlocksCapture =
    Bind (codes "int x ; int main ( void ) { int z ; z = 1 ; x = 2 ; return x ; }" ∷ [])
    ((bound 1 1 ∷ bound 4 4 ∷ bound 10 10 ∷ bound 12 10 ∷ bound 16 1 ∷ bound 21 1 ∷ []) ∷ [])
    × Bind (codes "int z ; int main ( void ) { int z ; z = 1 ; z = 2 ; return z ; }" ∷ [])
    ((bound 1 1 ∷ bound 4 4 ∷ bound 10 10 ∷ bound 12 10 ∷ bound 16 10 ∷ bound 21 10 ∷ []) ∷ [])

-- A name with external linkage is linked to its first declaration in the program; one with internal linkage to none.
abbrev pub ExternalNamesAreLinked : Type 0
ExternalNamesAreLinked =
    LinkTo (codes "extern int g ; static int h ; int main ( void ) { return g + h ; }" ∷ codes "int h ; int g ;" ∷ [])
    (link 0 2 0 2 None ∷ link 0 9 0 9 None ∷ link 1 1 1 1 None ∷ link 1 4 0 2 None ∷ [])

-- With another name a declaration may be linked to what it wasn't linked to before, though each identifier is bound as before.
abbrev pub NamesAreLinkedAnew : Type 0
NamesAreLinkedAnew =
    LinkTo (codes "int g ; int main ( void ) { return g ; }" ∷ codes "extern int h ;" ∷ []) (link 0 1 0 1 None ∷ link 0 4 0 4 None ∷ link 1 2 1 2 None ∷ [])
    × LinkTo (codes "int g ; int main ( void ) { return g ; }" ∷ codes "extern int g ;" ∷ []) (link 0 1 0 1 None ∷ link 0 4 0 4 None ∷ link 1 2 0 1 None ∷ [])

-- a built-in function is linked to, whether its header is included or not
abbrev pub BuiltInsAreLinked : Type 0
BuiltInsAreLinked =
    LinkTo (codes "int putchar ( int ) ; int main ( void ) { return putchar ( 65 ) ; }" ∷ []) (link 0 1 0 1 (Some Putchar) ∷ link 0 7 0 7 None ∷ [])

-- ---- a class

-- words as the tokens of a file, each by its number there
abbrev pub placed : ℕ → PlainToken → PlainToken
placed number token = record token { origin = record token.origin { span = record { start = number; «end» = number + 1 } } }

abbrev pub placed_from : ℕ → List (List ℕ) → List PlainToken
placed_from number [] = []
placed_from number (word ∷ words) = placed number (token_of word) ∷ placed_from (number + 1) words

abbrev pub at : ℕ → PlainFileToken
at number = record { file = 0; span = record { start = number; «end» = number + 1 } }

-- a file with two alternatives, and what two configurations see of it
abbrev pub alternatives : List PlainToken
alternatives = placed_from 0 (words_from [] (codes "long x ; int x ; int main ( void ) { x = 1 ; return 0 ; }"))

abbrev pub with_long : List PlainToken
with_long = take 3 alternatives ++ drop 6 alternatives

abbrev pub with_int : List PlainToken
with_int = drop 3 alternatives

abbrev pub names_among : List PlainToken → List UnitNames
names_among tokens = names_of_units (with_tree (read of_trees tokens) [])

-- these are the names of its one unit, in one of both
abbrev pub AreSeen : List UnitNames → Type 0
AreSeen units = (units ≡ names_among with_long) ⊎ (units ≡ names_among with_int)

-- The use is bound to the one declaration in one configuration and to the other in the other: so the three are of one class.
abbrev pub AlternativesAreOneClass : Type 0
AlternativesAreOneClass = IsBrought AreSeen (at 1) (at 12) × IsBrought AreSeen (at 1) (at 4)
