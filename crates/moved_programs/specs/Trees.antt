-- Trees whose tokens stand elsewhere in files, and are otherwise the same (ISO/IEC 9899:2011, 5.1.1.2).
use Rattle.std.specs.Prelude.{◌≡◌, List, []}
use Rattle.std.specs.List.{Contains}
use Rattle.c_text.specs.Token.{PlainToken}
use Rattle.c_tree.specs.Trees.{PlainTree, PlainTrees, leaf, node, none, more, trees, all_written}
use Rattle.core_meaning.specs.declared.refusals.TypeKind.{TypeKind}
use Rattle.core_meaning.specs.Constancy.{same_place}
use Rattle.core_meaning.specs.Linking.{IsBadlyTyped}

-- a tree with each token put elsewhere
abbrev mutual
  pub moved_tree : (PlainToken → PlainToken) → PlainTree → PlainTree
  moved_tree f (leaf token) = leaf (f token)
  moved_tree f (node kind parts) = node kind (moved_trees f parts)

  pub moved_trees : (PlainToken → PlainToken) → PlainTrees → PlainTrees
  moved_trees f none = none
  moved_trees f (more tree rest) = more (moved_tree f tree) (moved_trees f rest)

-- the tokens of units
abbrev pub tokens_of : List PlainTree → List PlainToken
tokens_of units = all_written (trees units) []

-- The function changes nothing of these tokens but where they stand, and keeps their places apart as they were.
pub record OnlyMoves (f : PlainToken → PlainToken) (tokens : List PlainToken) : Type 0 where
  pub kinds : (a : PlainToken) → Contains tokens a → (f a).kind ≡ a.kind
  pub texts : (a : PlainToken) → Contains tokens a → (f a).text ≡ a.text
  pub places : (a b : PlainToken) → Contains tokens a → Contains tokens b → same_place (f a) (f b) ≡ same_place a b

-- a type of the units was refused at the token that stands here now
pub record WasBadlyTyped (f : PlainToken → PlainToken) (units : List PlainTree) (kind : TypeKind) (token : PlainToken) : Type 0 where
  pub before : PlainToken
  pub refused : IsBadlyTyped units kind before
  pub moved : token ≡ f before
