-- Rows that go on by one part more.
use Rattle.std.proofs.Common.{◌≡◌, ℕ, ◌+◌, ◌<◌, ◌≤◌, Bool, true, false, ◌&&◌, List, [], ◌∷◌, ◌++◌, map, drop, length, get_or, if◌then◌else◌, refl, sym, ap, ◌∙◌, subst, append_assoc, append-nil}
use Rattle.std.proofs.lemmas.List.{drop_all, map-append}
use Rattle.cond_formula.specs.Conditions.{condition_of, value}
use Rattle.conditional.specs.Entries.{seen, under}
use Rattle.conditional.proofs.ListLaws.{item_of, seen-append}
use Rattle.c_tree.specs.declared.kinds.Kind.{Kind}
use Rattle.c_tree.specs.declared.trees.Tree.{Tree}
use Rattle.c_tree.specs.Trees.{PlainTree, PlainTrees, node, none, more, plain_tree, plain_trees}
use Rattle.choice_variants.specs.declared.parts.Part.{Part}
use Rattle.choice_variants.specs.declared.parts.Variant.{Variant}
use Rattle.choice_variants.specs.Variants.{part_at, before, shown}
use Rattle.choice_variants.proofs.Adding.{seen_with, next_added}
use Rattle.choice_expansions.specs.declared.rows.Expansion.{Expansion}
use Rattle.choice_expansions.specs.declared.rows.Row.{Row}
use Rattle.choice_expansions.specs.Expansions.{plain_expansion, expanded, trees_before, row_before, rows_before}

-- ---- one tree more

pub trees_before-end : (trees : List Tree) (tree : Tree) (rest : PlainTrees) → trees_before (trees ++ tree ∷ []) rest ≡ trees_before trees (more (plain_tree tree) rest)
trees_before-end [] tree rest = refl
trees_before-end (first ∷ others) tree rest = ap (more (plain_tree first)) (trees_before-end others tree rest)

pub parts_of_row : (list : List Tree) → plain_trees list ≡ trees_before list none
parts_of_row [] = refl
parts_of_row (first ∷ others) = ap (more (plain_tree first)) (parts_of_row others)

-- trees are copied one after the other
pub one_copied :
    (trees : List Tree) (i : ℕ) (part copy : Tree) (now new : List Tree) (rest : PlainTrees) → i < length trees → part ≡ get_or trees i part
    → new ≡ now ++ copy ∷ [] → plain_tree copy ≡ plain_tree part
    → trees_before now (trees_before (drop i trees) rest) ≡ trees_before trees rest → trees_before new (trees_before (drop (i + 1) trees) rest) ≡ trees_before trees rest
one_copied trees i part copy now new rest within is grown same before =
    ap (λ list. trees_before list (trees_before (drop (i + 1) trees) rest)) grown
    ∙ (trees_before-end now copy (trees_before (drop (i + 1) trees) rest)
    ∙ (ap (λ t. trees_before now (more t (trees_before (drop (i + 1) trees) rest))) same
    ∙ (ap (λ list. trees_before now (trees_before list rest)) (sym (item_of trees part i within is)) ∙ before)))

pub one_behind :
    (trees : List Tree) (i : ℕ) (tree copy : Tree) (now new : List Tree) (rest : PlainTrees) → length trees ≤ i → new ≡ now ++ copy ∷ [] → plain_tree copy ≡ plain_tree tree
    → trees_before now (trees_before (drop i trees) (more (plain_tree tree) rest)) ≡ trees_before trees (more (plain_tree tree) rest)
    → trees_before new rest ≡ trees_before trees (more (plain_tree tree) rest)
one_behind trees i tree copy now new rest past grown same before =
    ap (λ list. trees_before list rest) grown
    ∙ (trees_before-end now copy rest
    ∙ (ap (λ t. trees_before now (more t rest)) same
    ∙ (ap (λ list. trees_before now (trees_before list (more (plain_tree tree) rest))) (sym (drop_all i trees past)) ∙ before)))

-- ---- one row more

pub row_added :
    (on : ℕ → Bool) (rest : PlainTrees) (x : Row) (old new : List Row) → new ≡ old ++ x ∷ []
    → seen on (rows_before rest new) ≡ seen on (rows_before rest old) ++ under (value on (condition_of x.when)) (trees_before x.trees.items rest ∷ [])
row_added on rest x old new is = rw (is, map-append (row_before rest) old (x ∷ [])) (seen_with on (rows_before rest old) (row_before rest x))

pub only_tree :
    (on : ℕ → Bool) (x : Expansion) (all : List Expansion) → all ≡ x ∷ [] → value on (condition_of x.when) ≡ true → seen on (expanded all) ≡ plain_tree x.tree ∷ []
only_tree on x all is holds = rw (is, holds) refl

-- ---- a row goes on by each of the expansions

pub nothing_under : {P : Type 0} (k : Bool) (xs : List P) → xs ++ under k [] ≡ xs
nothing_under true xs = append-nil xs
nothing_under false xs = append-nil xs

pub mapped_under :
    {A P : Type 0} (f : A → P) (k t : Bool) (what : A) (rest : List A) (now new all : List P) → now ++ under k (map f (if t then what ∷ rest else rest)) ≡ all
    → new ≡ now ++ under (k && t) (f what ∷ []) → new ++ under k (map f rest) ≡ all
mapped_under {A} {P} f true true what rest now new all before added = ap (λ (list : List P). list ++ map f rest) added ∙ (append_assoc now (f what ∷ []) (map f rest) ∙ before)
mapped_under {A} {P} f true false what rest now new all before added = ap (λ (list : List P). list ++ map f rest) (added ∙ append-nil now) ∙ before
mapped_under {A} {P} f false t what rest now new all before added = ap (λ (list : List P). list ++ []) (added ∙ append-nil now) ∙ before

module _ (on : ℕ → Bool) (row : Row) (rest : PlainTrees) (list : List Expansion) where
  -- a row's trees, one more, and others
  abbrev pub with_tree : PlainTree → PlainTrees
  with_tree tree = trees_before row.trees.items (more tree rest)

  -- the row has gone on by each of the expansions so far
  abbrev pub AddedSoFar : ℕ → List PlainTrees → List PlainTrees → Type 0
  AddedSoFar i now all = now ++ under (value on (condition_of row.when)) (map with_tree (seen on (expanded (drop i list)))) ≡ all

  pub one_expansion :
      (i : ℕ) (x : Expansion) (now new all : List PlainTrees) → i < length list → x ≡ get_or list i x
      → new ≡ now ++ under (value on (condition_of row.when) && value on (condition_of x.when)) (with_tree (plain_tree x.tree) ∷ [])
      → AddedSoFar i now all → AddedSoFar (i + 1) new all
  one_expansion i x now new all within is added so_far =
      mapped_under with_tree (value on (condition_of row.when)) (value on (condition_of x.when)) (plain_tree x.tree) (seen on (expanded (drop (i + 1) list))) now new all
      (subst (λ others. now ++ under (value on (condition_of row.when)) (map with_tree (seen on (expanded others))) ≡ all) (item_of list x i within is) so_far) added

  pub all_expansions : (i : ℕ) (now all : List PlainTrees) → length list ≤ i → AddedSoFar i now all → now ≡ all
  all_expansions i now all past so_far =
      sym (nothing_under (value on (condition_of row.when)) now)
      ∙ subst (λ others. now ++ under (value on (condition_of row.when)) (map with_tree (seen on (expanded others))) ≡ all) (drop_all i list past) so_far

-- ---- the rows go on by the tree that is seen of a part

module _ (on : ℕ → Bool) (tree : PlainTree) (rest : PlainTrees) (list : List Row) where
  abbrev pub SoFar : ℕ → List Row → Type 0
  SoFar i now = seen on (rows_before rest now) ++ seen on (rows_before (more tree rest) (drop i list)) ≡ seen on (rows_before (more tree rest) list)

  pub one_row :
      (i : ℕ) (x : Row) (expansions : List Expansion) (now new : List Row) → i < length list → x ≡ get_or list i x → seen on (expanded expansions) ≡ tree ∷ []
      → seen on (rows_before rest new) ≡ seen on (rows_before rest now) ++ under (value on (condition_of x.when)) (map (with_tree on x rest expansions) (seen on (expanded expansions)))
      → SoFar i now → SoFar (i + 1) new
  one_row i x expansions now new within is alone added so_far =
      next_added (value on (condition_of x.when)) (trees_before x.trees.items (more tree rest)) (seen on (rows_before (more tree rest) (drop (i + 1) list)))
      (seen on (rows_before rest now)) (seen on (rows_before rest new)) (seen on (rows_before (more tree rest) list))
      (subst (λ others. seen on (rows_before rest now) ++ seen on (rows_before (more tree rest) others) ≡ seen on (rows_before (more tree rest) list)) (item_of list x i within is) so_far)
      (added ∙ ap (λ trees. seen on (rows_before rest now) ++ under (value on (condition_of x.when)) (map (with_tree on x rest expansions) trees)) alone)

  pub all_rows : (i : ℕ) (now : List Row) → length list ≤ i → SoFar i now → seen on (rows_before rest now) ≡ seen on (rows_before (more tree rest) list)
  all_rows i now past so_far =
      sym (append-nil (seen on (rows_before rest now)))
      ∙ subst (λ others. seen on (rows_before rest now) ++ seen on (rows_before (more tree rest) others) ≡ seen on (rows_before (more tree rest) list)) (drop_all i list past) so_far

-- ---- rows become nodes

-- one entry more, of which something is made
made_with :
    {A P : Type 0} (f : A → P) (t : Bool) (what : A) → under t (f what ∷ []) ≡ map f (under t (what ∷ []))
made_with f true what = refl
made_with f false what = refl

pub one_node :
    (on : ℕ → Bool) (kind : Kind) (row : Row) (x : Expansion) (rows : List Row) (now new : List Expansion) → new ≡ now ++ x ∷ [] → x.when ≡ row.when
    → plain_tree x.tree ≡ node kind (trees_before row.trees.items none) → seen on (expanded now) ≡ map (node kind) (seen on (rows_before none rows))
    → seen on (expanded new) ≡ map (node kind) (seen on (rows_before none (rows ++ row ∷ [])))
one_node on kind row x rows now new grown same_when same_tree before =
    ap (λ list. seen on (expanded list)) grown
    ∙ (ap (seen on) (map-append plain_expansion now (x ∷ []))
    ∙ (seen_with on (expanded now) (plain_expansion x)
    ∙ (ap (λ w. seen on (expanded now) ++ under (value on (condition_of w)) (plain_tree x.tree ∷ [])) same_when
    ∙ (ap (λ t. seen on (expanded now) ++ under (value on (condition_of row.when)) (t ∷ [])) same_tree
    ∙ (ap (λ list. list ++ under (value on (condition_of row.when)) (node kind (trees_before row.trees.items none) ∷ [])) before
    ∙ (ap (λ list. map (node kind) (seen on (rows_before none rows)) ++ list) (made_with (node kind) (value on (condition_of row.when)) (trees_before row.trees.items none))
    ∙ (sym (map-append (node kind) (seen on (rows_before none rows)) (under (value on (condition_of row.when)) (trees_before row.trees.items none ∷ [])))
    ∙ ap (map (node kind)) (sym (ap (seen on) (map-append (row_before none) rows (row ∷ [])) ∙ seen_with on (rows_before none rows) (row_before none row))))))))))

-- ---- the parts of a variant, and the variants

pub one_part :
    (on : ℕ → Bool) (parts : List Part) (i : ℕ) (part : Part) (rows : List Row) (now new : List Row) (all : List PlainTrees) → i < length parts → part ≡ get_or parts i part → rows ≡ now
    → seen on (rows_before (before on (drop (i + 1) parts) none) new) ≡ seen on (rows_before (more (part_at on part) (before on (drop (i + 1) parts) none)) rows)
    → seen on (rows_before (before on (drop i parts) none) now) ≡ all → seen on (rows_before (before on (drop (i + 1) parts) none) new) ≡ all
one_part on parts i part rows now new all within is same crossed so_far =
    crossed ∙ (ap (λ list. seen on (rows_before (more (part_at on part) (before on (drop (i + 1) parts) none)) list)) same
    ∙ subst (λ others. seen on (rows_before (before on others none) now) ≡ all) (item_of parts part i within is) so_far)

pub all_parts :
    (on : ℕ → Bool) (parts : List Part) (i : ℕ) (rows : List Row) (all : List PlainTrees) → length parts ≤ i
    → seen on (rows_before (before on (drop i parts) none) rows) ≡ all → seen on (rows_before none rows) ≡ all
all_parts on parts i rows all past so_far = subst (λ others. seen on (rows_before (before on others none) rows) ≡ all) (drop_all i parts past) so_far

pub one_variant :
    (on : ℕ → Bool) (list : List Variant) (i : ℕ) (x : Variant) (rows now new : List Row) → i < length list → x ≡ get_or list i x → new ≡ now ++ rows
    → seen on (rows_before none rows) ≡ under (value on (condition_of x.when)) (before on x.parts.items none ∷ [])
    → seen on (rows_before none now) ++ seen on (shown on (drop i list)) ≡ seen on (shown on list)
    → seen on (rows_before none new) ++ seen on (shown on (drop (i + 1) list)) ≡ seen on (shown on list)
one_variant on list i x rows now new within is grown same so_far =
    next_added (value on (condition_of x.when)) (before on x.parts.items none) (seen on (shown on (drop (i + 1) list)))
    (seen on (rows_before none now)) (seen on (rows_before none new)) (seen on (shown on list))
    (subst (λ others. seen on (rows_before none now) ++ seen on (shown on others) ≡ seen on (shown on list)) (item_of list x i within is) so_far)
    (ap (λ list. seen on (rows_before none list)) grown
    ∙ (ap (seen on) (map-append (row_before none) now rows)
    ∙ (seen-append on (rows_before none now) (rows_before none rows) ∙ ap (λ list. seen on (rows_before none now) ++ list) same)))

pub all_variants :
    (on : ℕ → Bool) (list : List Variant) (i : ℕ) (rows : List Row) → length list ≤ i
    → seen on (rows_before none rows) ++ seen on (shown on (drop i list)) ≡ seen on (shown on list) → seen on (rows_before none rows) ≡ seen on (shown on list)
all_variants on list i rows past so_far =
    sym (append-nil (seen on (rows_before none rows)))
    ∙ subst (λ others. seen on (rows_before none rows) ++ seen on (shown on others) ≡ seen on (shown on list)) (drop_all i list past) so_far
