-- A new name for the identifiers that are copies of some tokens of files.
use Rattle.std.specs.Prelude.{ℕ, ◌==◌, Bool, true, false, ◌&&◌, List, if◌then◌else◌}
use Rattle.std.specs.List.{list_any}
use Rattle.text_edits.specs.Span.{plain_span}
use Rattle.c_text.specs.declared.origin.FileToken.{FileToken}
use Rattle.c_text.specs.declared.token.TokenKind.{TokenKind}
use Rattle.c_text.specs.declared.token.TokenKind.TheVariants.{Name}
use Rattle.c_text.specs.Token.{PlainToken}
use Rattle.c_tree.specs.Trees.{PlainTree, PlainTrees, leaf, node, none, more}
use Rattle.choice_trees.specs.declared.trees.Forest.{Forest}
use Rattle.renamings.specs.Renamings.{same_span}
use Rattle.changed_forests.specs.Changed.{Change, IsChanged}

abbrev pub is_name : TokenKind → Bool
is_name Name = true
is_name other = false

-- the token is a copy of this token of a file
abbrev pub copies : FileToken → PlainToken → Bool
copies of t = t.origin.file == of.file && same_span t.origin.span (plain_span of.span)

module _ (class : List FileToken) (name : List ℕ) where
  -- the token is an identifier, and a copy of one of the class
  abbrev pub is_of_class : PlainToken → Bool
  is_of_class t = is_name t.kind && list_any (λ of. copies of t) class

  -- it has the new name then; where it comes from stays
  abbrev pub with_name : PlainToken → PlainToken
  with_name t = if is_of_class t then record t { text = name } else t

  -- a tree with the new name
  abbrev mutual
    pub renamed_tree : PlainTree → PlainTree
    renamed_tree (leaf t) = leaf (with_name t)
    renamed_tree (node kind parts) = node kind (renamed_trees parts)

    pub renamed_trees : PlainTrees → PlainTrees
    renamed_trees none = none
    renamed_trees (more tree rest) = more (renamed_tree tree) (renamed_trees rest)

  -- the name of a token doesn't depend on its number
  abbrev pub renaming : Change
  renaming number t = with_name t

  abbrev pub IsRenamed : Forest → Forest → Type 0
  IsRenamed old new = IsChanged renaming old new
