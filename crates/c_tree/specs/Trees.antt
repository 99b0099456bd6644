-- Trees without pointers and room in memory, and what they spell (ISO/IEC 9899:2011, 6.5 to 6.9).
use Rattle.std.specs.Prelude.{◌≡◌, List, [], ◌∷◌, ◌++◌, map}
use Rattle.c_text.specs.Token.{PlainToken, plain_token}
use Rattle.c_tree.specs.declared.kinds.Kind.{Kind}
use Rattle.c_tree.specs.declared.kinds.Kind.TheVariants.{Absent}
use Rattle.c_tree.specs.declared.trees.Tree.{Tree}
use Rattle.c_tree.specs.declared.trees.Tree.TheOpen.{Tree-F, Leaf, Node}
use Rattle.c_tree.specs.declared.trees.Tree.TheFolds.{fold-Tree}

mutual
  pub data PlainTree : Type 0 where
    leaf : PlainToken → PlainTree
    node : Kind → PlainTrees → PlainTree

  pub data PlainTrees : Type 0 where
    none : PlainTrees
    more : PlainTree → PlainTrees → PlainTrees

-- what stands for a part that may be left out and is
abbrev pub absent : PlainTree
absent = node Absent none

-- The tokens of a tree, and tokens behind them.
abbrev mutual
  pub written : PlainTree → List PlainToken → List PlainToken
  written (leaf token) behind = token ∷ behind
  written (node kind parts) behind = all_written parts behind

  pub all_written : PlainTrees → List PlainToken → List PlainToken
  all_written none behind = behind
  all_written (more part rest) behind = written part (all_written rest behind)

-- what a tree spells
abbrev pub spelled : PlainTree → List PlainToken
spelled tree = written tree []

abbrev pub trees : List PlainTree → PlainTrees
trees [] = none
trees (first ∷ rest) = more first (trees rest)

abbrev pub one_level : Tree-F PlainTree → PlainTree
one_level (Leaf token) = leaf (plain_token token)
one_level (Node kind parts) = node kind (trees parts.items)

-- a tree's plain form
unfoldable pub plain_tree : Tree → PlainTree
plain_tree = fold-Tree PlainTree one_level

abbrev pub plain_trees : List Tree → PlainTrees
plain_trees parts = trees (map plain_tree parts)

-- the tokens that a writing puts before others come behind those that were there
abbrev pub Adds : (List PlainToken → List PlainToken) → List PlainToken → List PlainToken → Type 0
Adds writing old new = (behind : List PlainToken) → new ++ behind ≡ old ++ writing behind
