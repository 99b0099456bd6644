-- Worked examples, no part of the definitions: units that are written with a blank between two tokens, and which members their identifiers use
-- by the standard (ISO/IEC 9899:2011, 6.2.1, 6.5.2.3). Structs are numbered in the order in which they are declared.
use Rattle.std.specs.Prelude.{◌≡◌, ℕ, List, [], ◌∷◌, ◌++◌, map, codes, Option, Some, None}
use Rattle.c_tree.specs.declared.kinds.Kind.TheVariants as k
use Rattle.c_tree.specs.Trees.{PlainTree, node}
use Rattle.c_tree.specs.Machine.{read, of_trees}
use Rattle.core_meaning.specs.UnitNames.{unit_start, judged_unit}
use Rattle.core_meaning.specs.Linking.{no_numbers}
use Rattle.bindings.specs.Rows.{tokens_of}
use Rattle.member_uses.specs.Uses.{Use, uses_in}
use Rattle.unit_member_uses.specs.Items.{uses_in_items}

-- a member by its name, and the number of its struct
pub data Used : Type 0 where
  member : List ℕ → ℕ → Used

abbrev pub shown : List Use → List Used
shown uses = map (λ u. member u.token.text u.structure) uses

abbrev pub own : ℕ → ℕ
own n = n

-- as the whole unit is judged, and item by item
abbrev pub used_by_unit : Option PlainTree → List Used
used_by_unit None = []
used_by_unit (Some tree) = shown (uses_in own tree (judged_unit 0 [] (no_numbers 0) tree))

abbrev pub used_by_items : Option PlainTree → List Used
used_by_items (Some (node k.Unit items)) = shown (uses_in_items own 0 (unit_start [] (no_numbers 0)) items)
used_by_items other = []

abbrev pub Uses : List ℕ → List Used → Type 0
Uses text expected =
    (used_by_unit (read of_trees (tokens_of text)) ≡ expected) × (used_by_items (read of_trees (tokens_of text)) ≡ expected)

-- two structs with a member of one name
abbrev pub two_structs : List ℕ
two_structs = codes "struct A { int m ; } ; struct B { int m ; struct A * n ; } ; "

-- ---- rows

-- what a block declares hides what stands around it, up to the block's end
abbrev pub BlocksHide : Type 0
BlocksHide =
    Uses (two_structs ++ codes "int f ( struct A * p ) { int x = p -> m ; { struct B * p ; x = p -> m ; } return p -> m ; }")
    (member (codes "m") 0 ∷ member (codes "m") 1 ∷ member (codes "m") 0 ∷ [])

-- a local is visible behind its declarator, in its own initialiser and in those behind it
abbrev pub LocalsAreVisibleBehind : Type 0
LocalsAreVisibleBehind =
    Uses (two_structs ++ codes "int f ( struct A * p ) { { int x = p -> m , p = x ; x = p ; } struct B s = { 1 , p } , t = { s . m , s . n } ; return t . n -> m ; }")
    (member (codes "m") 0 ∷ member (codes "m") 1 ∷ member (codes "n") 1 ∷ member (codes "n") 1 ∷ member (codes "m") 0 ∷ [])

-- what a `for` declares is visible in the `for`
abbrev pub ForIsABlock : Type 0
ForIsABlock =
    Uses (two_structs ++ codes "int f ( struct A * p ) { for ( struct B * p = 0 ; p -> m < 3 ; p -> m ++ ) { if ( p -> n ) return p -> n -> m ; } return p -> m ; }")
    (member (codes "m") 1 ∷ member (codes "m") 1 ∷ member (codes "n") 1 ∷ member (codes "n") 1 ∷ member (codes "m") 0 ∷ member (codes "m") 0 ∷ [])

-- what declares a member uses none, and the first value of a global is constant
abbrev pub DeclarationsUseNothing : Type 0
DeclarationsUseNothing =
    Uses (two_structs ++ codes "struct A s ; struct A * p = & s ; int g ( struct B * q , int a [ 3 ] ) ; int f ( void ) { return p -> m ; }")
    (member (codes "m") 0 ∷ [])
