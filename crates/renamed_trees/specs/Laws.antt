-- What holds of the trees of renamed tokens; each is the contract of a function of this crate. A token is to the grammar what its kind
-- is, but for keywords and punctuators, which no renaming touches; so units are read alike before and after.
use Rattle.std.specs.Prelude.{◌≡◌, ℕ, List, map}
use Rattle.c_text.specs.Token.{PlainToken}
use Rattle.c_tree.specs.Trees.{PlainTree}
use Rattle.c_tree.specs.Units.{IsTreeOf, IsUnexpected, IsTooHigh}
use Rattle.renamings.specs.Renamings.{Renaming, renamed_token}
use Rattle.renamed_trees.specs.RenamedTrees.{renamed_tree, OnlyNamesAreRenamed, IsRenamedFrom}

-- The tree of the renamed tokens is the renamed tree and no other; and they have none where the tokens before had none.
pub record TreesAreRenamed : Type 0 where
  pub has_renamed :
      (r : Renaming) (tokens : List PlainToken) (tree : PlainTree) → OnlyNamesAreRenamed r tokens → IsTreeOf tokens tree
      → IsTreeOf (map (renamed_token r) tokens) (renamed_tree r tree)
  pub no_other :
      (r : Renaming) (tokens : List PlainToken) (tree other : PlainTree) → OnlyNamesAreRenamed r tokens → IsTreeOf tokens tree
      → IsTreeOf (map (renamed_token r) tokens) other → other ≡ renamed_tree r tree
  pub had_tree :
      (r : Renaming) (tokens : List PlainToken) (renamed : PlainTree) → OnlyNamesAreRenamed r tokens
      → IsTreeOf (map (renamed_token r) tokens) renamed → IsRenamedFrom r tokens renamed

-- Tokens that are refused are refused in the same way, at the token with the same number.
pub record RefusalsAreKept : Type 0 where
  pub unexpected :
      (r : Renaming) (tokens : List PlainToken) (place : ℕ) → OnlyNamesAreRenamed r tokens → IsUnexpected tokens place
      → IsUnexpected (map (renamed_token r) tokens) place
  pub too_high :
      (r : Renaming) (tokens : List PlainToken) → OnlyNamesAreRenamed r tokens → IsTooHigh tokens
      → IsTooHigh (map (renamed_token r) tokens)
