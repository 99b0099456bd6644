-- Trees in which tokens get another name.
use Rattle.std.specs.Prelude.{◌≡◌, List, All, IsTrue}
use Rattle.c_text.specs.declared.token.TokenKind.TheVariants.{Name}
use Rattle.c_text.specs.Token.{PlainToken}
use Rattle.c_tree.specs.Trees.{PlainTree, PlainTrees}
use Rattle.c_tree.specs.Units.{IsTreeOf}
use Rattle.moved_programs.specs.Trees.{moved_tree, moved_trees}
use Rattle.renamings.specs.Renamings.{Renaming, is_renamed, renamed_token}

-- The same tree, each of its tokens with its new place, and with the new name if it is a copy of a renamed one.
abbrev pub renamed_tree : Renaming → PlainTree → PlainTree
renamed_tree r tree = moved_tree (renamed_token r) tree

abbrev pub renamed_trees : Renaming → PlainTrees → PlainTrees
renamed_trees r parts = moved_trees (renamed_token r) parts

-- the token is a name, if it is a copy of a renamed one
abbrev pub IsNameIfRenamed : Renaming → PlainToken → Type 0
IsNameIfRenamed r token = IsTrue (is_renamed r token.origin.file token.origin.span) → token.kind ≡ Name

-- only names among the tokens are renamed
abbrev pub OnlyNamesAreRenamed : Renaming → List PlainToken → Type 0
OnlyNamesAreRenamed r tokens = All (IsNameIfRenamed r) tokens

-- the tree of the tokens before they were renamed
pub record IsRenamedFrom (r : Renaming) (tokens : List PlainToken) (renamed : PlainTree) : Type 0 where
  pub tree : PlainTree
  pub is_tree : IsTreeOf tokens tree
  pub same : renamed ≡ renamed_tree r tree
