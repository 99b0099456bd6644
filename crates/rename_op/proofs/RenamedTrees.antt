-- Trees in which a class gets a new name, and those of which the tokens are renamed: they are the same but for the places of their tokens.
use Rattle.std.proofs.Common.{◌≡◌, ℕ, Bool, true, false, List, [], ◌∷◌, map, refl, sym, ap, ap₂, subst, ◌∙◌}
use Rattle.std.specs.Prelude.{if◌then◌else◌, ◌&&◌}
use Rattle.std.specs.List.{AllZip, AllByRecursion, list_any}
use Rattle.std.proofs.lemmas.Bool.{false≢true}
use Rattle.c_text.specs.declared.origin.FileToken.{FileToken}
use Rattle.c_text.specs.declared.token.TokenKind.{TokenKind}
use Rattle.c_text.specs.declared.token.TokenKind.TheVariants.{Name}
use Rattle.c_text.specs.Token.{PlainToken}
use Rattle.c_tree.specs.Trees.{PlainTree, PlainTrees, leaf, node, none, more, written, all_written}
use Rattle.moved_programs.specs.Trees.{moved_tree, moved_trees, tokens_of}
use Rattle.moved_names.specs.Places.{no_origin, unplaced, AreSameButPlaces}
use Rattle.moved_names.specs.Laws.{MovesDontName}
use Rattle.renamings.specs.Renamings.{Renaming, renamed_token}
use Rattle.renamed_programs.specs.Trees.{SameButName, SameButNames, AllSameButNames, same_leaf, same_node, same_end, same_more}
use Rattle.renamed_products.specs.Products.{renamed_all}
use Rattle.changed_forests.specs.Renamed.{is_name, copies, is_of_class, with_name, renamed_tree, renamed_trees}
use Rattle.changed_forests.specs.Numbered.{unsited, AreSameButSites}
use Rattle.rename_op.specs.Captures.{IsRenamedByBoth}

-- ---- a name in place of another, and tokens without their sites

module _ (class : List FileToken) (new : List ℕ) where
  abbrev pub with_names : List PlainTree → List PlainTree
  with_names trees = map (renamed_tree class new) trees

  token-unsited : (token : PlainToken) → unsited (with_name class new token) ≡ with_name class new (unsited token)
  token-unsited token = by (is_of_class class new token)
    where
      by : (b : Bool) → unsited (if b then record token { text = new } else token) ≡ (if b then record (unsited token) { text = new } else unsited token)
      by true = refl
      by false = refl

  mutual
    tree-unsited : (tree : PlainTree) → moved_tree unsited (renamed_tree class new tree) ≡ renamed_tree class new (moved_tree unsited tree)
    tree-unsited (leaf token) = ap leaf (token-unsited token)
    tree-unsited (node kind parts) = ap (node kind) (parts-unsited parts)

    parts-unsited : (parts : PlainTrees) → moved_trees unsited (renamed_trees class new parts) ≡ renamed_trees class new (moved_trees unsited parts)
    parts-unsited none = refl
    parts-unsited (more tree rest) = ap₂ (λ (t : PlainTree) (ts : PlainTrees). more t ts) (tree-unsited tree) (parts-unsited rest)

  trees-unsited : (trees : List PlainTree) → map (moved_tree unsited) (with_names trees) ≡ with_names (map (moved_tree unsited) trees)
  trees-unsited [] = refl
  trees-unsited (tree ∷ rest) = ap₂ (λ (t : PlainTree) (ts : List PlainTree). t ∷ ts) (tree-unsited tree) (trees-unsited rest)

module _ (moves : MovesDontName) where
  -- trees that are the same but for the sites of their tokens are so but for the places
  pub unplaced-of-unsited : (trees others : List PlainTree) → AreSameButSites trees others → AreSameButPlaces trees others
  unplaced-of-unsited trees others same =
      moves.moved unsited (λ token. record { kind = refl; text = refl }) trees
      ∙ (ap (map (moved_tree unplaced)) same ∙ sym (moves.moved unsited (λ token. record { kind = refl; text = refl }) others))

  pub named-unplaced :
      (class : List FileToken) (new : List ℕ) (trees others : List PlainTree) → AreSameButSites trees others → AreSameButPlaces (with_names class new trees) (with_names class new others)
  named-unplaced class new trees others same =
      unplaced-of-unsited (with_names class new trees) (with_names class new others)
      (trees-unsited class new trees ∙ (ap (with_names class new) same ∙ sym (trees-unsited class new others)))

-- ---- a name in place of another, and renamed tokens

name-kind : (kind : TokenKind) → is_name kind ≡ true → kind ≡ Name
name-kind Name e = refl
name-kind _ e = absurd (false≢true e)

module _ (class : List FileToken) (r : Renaming) where
  -- the token with this text, where no token stands
  abbrev spelt : PlainToken → List ℕ → PlainToken
  spelt token text = record token { text = text; joined = false; origin = no_origin }

  token-named : (token : PlainToken) → SameButName token (renamed_token r token) → IsRenamedByBoth class r token → unplaced (with_name class r.new token) ≡ unplaced (renamed_token r token)
  token-named token same both = by (is_name token.kind) refl
    where
      named : (b : Bool) → unplaced (if b then record token { text = r.new } else token) ≡ spelt token (if b then r.new else token.text)
      named true = refl
      named false = refl

      other : (b : Bool) → is_name token.kind ≡ b → b ≡ false → token.kind ≡ Name → ⊥
      other b e f kind = false≢true (sym (e ∙ f) ∙ ap is_name kind)

      by : (b : Bool) → is_name token.kind ≡ b → unplaced (with_name class r.new token) ≡ unplaced (renamed_token r token)
      by true e =
          named (is_of_class class r.new token)
          ∙ ap (λ (b : Bool). spelt token (if b then r.new else token.text)) (both (name-kind token.kind e))
      by false e =
          ap (λ (b : Bool). unplaced (if b && list_any (λ (of : FileToken). copies of token) class then record token { text = r.new } else token)) e
          ∙ ap (spelt token) (same.text (other false e refl))

  abbrev Both : List PlainToken → Type 0
  Both tokens = AllByRecursion (IsRenamedByBoth class r) tokens

  -- the tree, and the tokens behind it
  mutual
    tree-named :
        {tree other : PlainTree} → SameButNames tree other → (behind : List PlainToken) → Both (written tree behind) → other ≡ moved_tree (renamed_token r) tree
        → (moved_tree unplaced (renamed_tree class r.new tree) ≡ moved_tree unplaced other) × Both behind
    tree-named (same_leaf {a = a} {b = b} same) behind both e =
        let is : b ≡ renamed_token r a = cc in
        (ap leaf (token-named a (subst (SameButName a) is same) both.0 ∙ ap unplaced (sym is)), both.1)
    tree-named (same_node {kind = kind} {parts = parts} {others = others} same) behind both e =
        let is : others ≡ moved_trees (renamed_token r) parts = cc in
        let found = parts-named same behind both is in
        (ap (node kind) found.0, found.1)

    parts-named :
        {parts others : PlainTrees} → AllSameButNames parts others → (behind : List PlainToken) → Both (all_written parts behind) → others ≡ moved_trees (renamed_token r) parts
        → (moved_trees unplaced (renamed_trees class r.new parts) ≡ moved_trees unplaced others) × Both behind
    parts-named same_end behind both e = (refl, both)
    parts-named (same_more {tree = tree} {other = other} {rest = rest} {others = others} same all) behind both e =
        let first : other ≡ moved_tree (renamed_token r) tree = cc in
        let further : others ≡ moved_trees (renamed_token r) rest = cc in
        let here = tree-named same (all_written rest behind) both first in
        let found = parts-named all behind here.1 further in
        (ap₂ (λ (t : PlainTree) (ts : PlainTrees). more t ts) here.0 found.0, found.1)

  pub trees-named : (trees : List PlainTree) → AllZip SameButNames trees (renamed_all r trees) → Both (tokens_of trees) → AreSameButPlaces (with_names class r.new trees) (renamed_all r trees)
  trees-named [] same both = refl
  trees-named (tree ∷ rest) same both =
      let here = tree-named same.0 (tokens_of rest) both refl in
      ap₂ (λ (t : PlainTree) (ts : List PlainTree). t ∷ ts) here.0 (trees-named rest same.1 here.1)
