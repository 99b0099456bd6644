-- Worked examples, no part of the definitions: units that are written with a blank between two tokens, and the name spaces of their identifiers.
use Rattle.std.specs.Prelude.{◌≡◌, ℕ, List, [], ◌∷◌, codes, Option, Some, None}
use Rattle.c_tree.specs.Trees.{PlainTree}
use Rattle.c_tree.specs.Machine.{read, of_trees}
use Rattle.bindings.specs.Visible.{NameSpace, ordinary, tags, members_of}
use Rattle.bindings.specs.Rows.{tokens_of}
use Rattle.name_spaces.specs.Spaces.{spaces_of}

abbrev pub spaces_in : Option PlainTree → List (Option NameSpace)
spaces_in None = []
spaces_in (Some tree) = spaces_of tree

-- the identifiers of the text are in these name spaces
abbrev pub AreIn : List ℕ → List (Option NameSpace) → Type 0
AreIn text expected = spaces_in (read of_trees (tokens_of text)) ≡ expected

-- a member is known by the tag of the struct around it; a tag is one wherever it stands
abbrev pub MembersAreOfTheirStruct : Type 0
MembersAreOfTheirStruct =
    AreIn (codes "struct S * p ; struct S { int m ; struct T * n [ 2 ] ; } ; struct U { int m ; } ;")
    (Some tags ∷ Some ordinary ∷ Some tags ∷ Some (members_of (codes "S")) ∷ Some tags ∷ Some (members_of (codes "S")) ∷ Some tags ∷ Some (members_of (codes "U")) ∷ [])

-- a parameter is in none, nor is what a block declares; a function and what stands behind it at file scope is
abbrev pub BlocksAreInNone : Type 0
BlocksAreInNone =
    AreIn (codes "int a [ 3 ] , g ( struct S * n , int b [ n ] ) ; int f ( int n ) { struct S x , y = a [ n ] ; return x . m ; }")
    (Some ordinary ∷ Some ordinary ∷ Some tags ∷ None ∷ None ∷ None ∷ Some ordinary ∷ None ∷ Some tags ∷ None ∷ None ∷ None ∷ None ∷ None ∷ None ∷ [])
