-- The tree of a list of tokens, and where a list stops being the front of any unit.
use Rattle.std.specs.Prelude.{◌≡◌, ℕ, ◌+◌, ◌<◌, ◌≤◌, List, ◌++◌, length, take, IsTrue}
use Rattle.c_text.specs.Token.{PlainToken}
use Rattle.c_tree.specs.Trees.{PlainTree, spelled}
use Rattle.c_tree.specs.Grammar.{is_unit}
use Rattle.c_tree.specs.Heights.{height_of, most_high}

-- a unit of any height that spells the tokens
pub record Spells (tokens : List PlainToken) (tree : PlainTree) : Type 0 where
  pub unit : IsTrue (is_unit tree)
  pub text : spelled tree ≡ tokens

-- the tree of the tokens
pub record IsTreeOf (tokens : List PlainToken) (tree : PlainTree) : Type 0 where
  pub spells : Spells tokens tree
  pub low : height_of tree ≤ most_high

-- some unit of any height begins with the tokens
pub record BeginsUnit (front : List PlainToken) : Type 0 where
  pub behind : List PlainToken
  pub tree : PlainTree
  pub spells : Spells (front ++ behind) tree

-- the first tokens begin some unit, with one more they don't, or the text breaks off there
pub record IsUnexpected (tokens : List PlainToken) (place : ℕ) : Type 0 where
  pub within : place ≤ length tokens
  pub begins : BeginsUnit (take place tokens)
  pub whole : (tree : PlainTree) → Spells tokens tree → ⊥
  pub ends : place < length tokens → BeginsUnit (take (place + 1) tokens) → ⊥

-- a unit spells the tokens, but one that is too high
pub record IsTooHigh (tokens : List PlainToken) : Type 0 where
  pub tree : PlainTree
  pub spells : Spells tokens tree
  pub high : most_high < height_of tree
