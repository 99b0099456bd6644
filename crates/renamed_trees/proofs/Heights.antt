-- Renamed trees are as high as before.
use Rattle.std.proofs.Common.{◌≡◌, ◌+◌, max, List, [], ◌∷◌, All, refl, ap, ap₂}
use Rattle.std.specs.Prelude.{if◌then◌else◌}
use Rattle.std.proofs.lemmas.List.Elements.{All-head, All-tail}
use Rattle.c_text.specs.Token.{PlainToken}
use Rattle.c_tree.specs.declared.kinds.Kind.TheVariants as k
use Rattle.c_tree.specs.declared.terminals.Terminal.TheVariants as t
use Rattle.c_tree.specs.Terminals.{is_one_of}
use Rattle.c_tree.specs.Trees.{PlainTree, PlainTrees, leaf, node, none, more, written, all_written}
use Rattle.c_tree.specs.Grammar.{is_word}
use Rattle.c_tree.specs.Heights.{count_stars, several, height_of, highest_of}
use Rattle.renamings.specs.Renamings.{Renaming}
use Rattle.renamed_trees.specs.RenamedTrees.{renamed_tree, renamed_trees}
use Rattle.renamed_trees.proofs.Terminals.{IsKept}

-- its tokens are the same to the grammar
abbrev mutual
  pub TreeKept : Renaming → PlainTree → Type 0
  TreeKept r (leaf token) = IsKept r token
  TreeKept r (node kind parts) = TreesKept r parts

  pub TreesKept : Renaming → PlainTrees → Type 0
  TreesKept r none = Unit {0}
  TreesKept r (more tree rest) = TreeKept r tree × TreesKept r rest

-- as the tokens that are written are, and those behind them
mutual
  written_kept : (r : Renaming) (tree : PlainTree) (behind : List PlainToken) → All (IsKept r) (written tree behind) → TreeKept r tree × All (IsKept r) behind
  written_kept r (leaf token) behind kept = (All-head (IsKept r) token behind kept, All-tail (IsKept r) token behind kept)
  written_kept r (node kind parts) behind kept = all_written_kept r parts behind kept

  all_written_kept : (r : Renaming) (parts : PlainTrees) (behind : List PlainToken) → All (IsKept r) (all_written parts behind) → TreesKept r parts × All (IsKept r) behind
  all_written_kept r none behind kept = (tt, kept)
  all_written_kept r (more tree rest) behind kept =
      let first = written_kept r tree (all_written rest behind) kept in
      let others = all_written_kept r rest behind first.1 in
      ((first.0, others.0), others.1)

pub tree_kept : (r : Renaming) (tree : PlainTree) → All (IsKept r) (written tree []) → TreeKept r tree
tree_kept r tree kept = let both = written_kept r tree [] kept in both.0

is_word_renamed : (r : Renaming) (tree : PlainTree) → TreeKept r tree → is_word (t.Star ∷ []) (renamed_tree r tree) ≡ is_word (t.Star ∷ []) tree
is_word_renamed r (leaf token) kept = ap (is_one_of (t.Star ∷ [])) kept
is_word_renamed r (node kind parts) kept = refl

count_stars_renamed : (r : Renaming) (parts : PlainTrees) → TreesKept r parts → count_stars (renamed_trees r parts) ≡ count_stars parts
count_stars_renamed r none kept = refl
count_stars_renamed r (more tree rest) kept =
    ap₂ (λ word others. (if word then 1 else 0) + others) (is_word_renamed r tree kept.0) (count_stars_renamed r rest kept.1)

several_renamed : (r : Renaming) (parts : PlainTrees) → several (renamed_trees r parts) ≡ several parts
several_renamed r none = refl
several_renamed r (more first none) = refl
several_renamed r (more first (more second rest)) = refl

mutual
  pub height_renamed : (r : Renaming) (tree : PlainTree) → TreeKept r tree → height_of (renamed_tree r tree) ≡ height_of tree
  height_renamed r (leaf token) kept = ap (λ kind. if is_one_of (t.Name ∷ t.Number ∷ t.Character ∷ t.Text ∷ []) kind then 1 else 0) kept
  height_renamed r (node k.Specifiers parts) kept = ap₂ (λ a b. a + b) (several_renamed r parts) (highest_renamed r parts kept)
  height_renamed r (node k.Declarator parts) kept = ap₂ (λ a b. a + b) (count_stars_renamed r parts kept) (highest_renamed r parts kept)
  height_renamed r (node k.ArrayDeclarator parts) kept = ap₂ (λ a b. a + 1 + b) (count_stars_renamed r parts kept) (highest_renamed r parts kept)
  height_renamed r (node k.FunctionDeclarator parts) kept = ap₂ (λ a b. a + 1 + b) (count_stars_renamed r parts kept) (highest_renamed r parts kept)
  height_renamed r (node k.Absent parts) kept = highest_renamed r parts kept
  height_renamed r (node k.Members parts) kept = highest_renamed r parts kept
  height_renamed r (node k.Declarators parts) kept = highest_renamed r parts kept
  height_renamed r (node k.Parameters parts) kept = highest_renamed r parts kept
  height_renamed r (node k.Initialisers parts) kept = highest_renamed r parts kept
  height_renamed r (node k.Items parts) kept = highest_renamed r parts kept
  height_renamed r (node k.Else parts) kept = highest_renamed r parts kept
  height_renamed r (node k.ForStart parts) kept = highest_renamed r parts kept
  height_renamed r (node k.Arguments parts) kept = highest_renamed r parts kept
  height_renamed r (node k.Texts parts) kept = highest_renamed r parts kept
  height_renamed r (node other parts) kept = ap (λ n. 1 + n) (highest_renamed r parts kept)

  highest_renamed : (r : Renaming) (parts : PlainTrees) → TreesKept r parts → highest_of (renamed_trees r parts) ≡ highest_of parts
  highest_renamed r none kept = refl
  highest_renamed r (more tree rest) kept = ap₂ (λ a b. max a b) (height_renamed r tree kept.0) (highest_renamed r rest kept.1)
