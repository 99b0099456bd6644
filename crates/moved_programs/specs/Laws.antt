-- What comes of units doesn't depend on where their tokens stand in files (ISO/IEC 9899:2011, 5.1.1.2, 6.9).
use Rattle.std.specs.Prelude.{ℕ, List, map}
use Rattle.c_text.specs.Token.{PlainToken}
use Rattle.c_tree.specs.Trees.{PlainTree}
use Rattle.core_meaning.specs.declared.refusals.TypeKind.{TypeKind}
use Rattle.core_meaning.specs.declared.refusals.LinkKind.{LinkKind}
use Rattle.core_meaning.specs.Program.{PlainProgram}
use Rattle.core_meaning.specs.Linking.{IsElaborated, IsBadlyTyped, IsBadlyLinked}
use Rattle.moved_programs.specs.Trees.{moved_tree, tokens_of, OnlyMoves, WasBadlyTyped}

-- Units whose tokens stand elsewhere have the same core program, or the same fault: of types at the same token, of linking by the same name.
-- And what they have there, they had before.
pub record PlacesDontMatter : Type 0 where
  pub programs : (f : PlainToken → PlainToken) (units : List PlainTree) → OnlyMoves f (tokens_of units) → (p : PlainProgram) → IsElaborated units p → IsElaborated (map (moved_tree f) units) p
  pub types :
      (f : PlainToken → PlainToken) (units : List PlainTree) → OnlyMoves f (tokens_of units) → (kind : TypeKind) (token : PlainToken) → IsBadlyTyped units kind token
      → IsBadlyTyped (map (moved_tree f) units) kind (f token)
  pub links :
      (f : PlainToken → PlainToken) (units : List PlainTree) → OnlyMoves f (tokens_of units) → (kind : LinkKind) (name : List ℕ) → IsBadlyLinked units kind name
      → IsBadlyLinked (map (moved_tree f) units) kind name
  pub programs_before : (f : PlainToken → PlainToken) (units : List PlainTree) → OnlyMoves f (tokens_of units) → (p : PlainProgram) → IsElaborated (map (moved_tree f) units) p → IsElaborated units p
  pub types_before :
      (f : PlainToken → PlainToken) (units : List PlainTree) → OnlyMoves f (tokens_of units) → (kind : TypeKind) (token : PlainToken) → IsBadlyTyped (map (moved_tree f) units) kind token
      → WasBadlyTyped f units kind token
  pub links_before :
      (f : PlainToken → PlainToken) (units : List PlainTree) → OnlyMoves f (tokens_of units) → (kind : LinkKind) (name : List ℕ) → IsBadlyLinked (map (moved_tree f) units) kind name
      → IsBadlyLinked units kind name
