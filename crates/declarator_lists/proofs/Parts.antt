-- The entries of a list are the parts of its node that are seen, and how it begins.
use Rattle.std.proofs.Common.{◌≡◌, ℕ, ◌+◌, ◌<◌, ◌≤◌, Bool, false, not, ◌&&◌, List, [], ◌∷◌, ◌++◌, drop, length, get_or, Option, Some, None, refl, sym, ap, ◌∙◌, subst, append_assoc, append-nil, if◌then◌else◌}
use Rattle.std.proofs.lemmas.List.{drop_all}
use Rattle.cond_formula.specs.declared.formulas.Formula.{Formula}
use Rattle.cond_formula.specs.Conditions.{Condition, condition_of, value}
use Rattle.conditional.specs.Entries.{seen, under}
use Rattle.conditional.proofs.ListLaws.{item_of}
use Rattle.c_tree.specs.declared.kinds.Kind.{Kind}
use Rattle.c_tree.specs.Trees.{PlainTree, PlainTrees, none}
use Rattle.choice_trees.specs.declared.trees.Choice.{Choice}
use Rattle.choice_trees.specs.declared.trees.Item as tree
use Rattle.choice_trees.specs.ChoiceTrees.{PlainBranches, plain_item, plain_branches, plain_choices, needs_statement, with_part, item_at, branch_at, parts_at}
use Rattle.choice_variants.proofs.Listing.{next_part}
use Rattle.declarator_lists.specs.Lists.{trees_of}
use Rattle.declarator_lists.specs.Entries.{entries_at}
use Rattle.declarator_lists.specs.declared.items.ListEntry.{ListEntry}
use Rattle.declarator_lists.proofs.Pushing.{in_turns, nothing_left}

-- ---- the alternatives for a part

-- the part, if one of these alternatives holds
abbrev pub of_branches : (ℕ → Bool) → PlainBranches → List PlainTree
of_branches on branches = trees_of (with_part false (branch_at on branches) none)

module _ (on : ℕ → Bool) (list : List (Formula × tree.Item)) where
  abbrev pub ChosenSoFar : ℕ → Condition → List PlainTree → List PlainTree → Type 0
  ChosenSoFar i left now all = now ++ under (value on left) (of_branches on (plain_branches (drop i list))) ≡ all

  pub one_alternative :
      (i : ℕ) (b : Formula × tree.Item) (left here after : Condition) (now new all : List PlainTree) → i < length list → b ≡ get_or list i b
      → value on here ≡ (value on left && value on (condition_of b.0)) → value on after ≡ (value on left && not (value on (condition_of b.0)))
      → new ≡ now ++ under (value on here) (item_at on (plain_item b.1) ∷ []) → ChosenSoFar i left now all → ChosenSoFar (i + 1) after new all
  one_alternative i b left here after now new all within is is_here is_after added so_far =
      in_turns (value on left) (value on (condition_of b.0)) (value on here) (value on after)
      (item_at on (plain_item b.1) ∷ []) (of_branches on (plain_branches (drop (i + 1) list))) (of_branches on (plain_branches (drop i list)))
      now new all is_here is_after
      (λ h. ap (λ others. of_branches on (plain_branches others)) (item_of list b i within is)
      ∙ ap (λ (t : Bool). trees_of (with_part false (if t then Some (item_at on (plain_item b.1)) else branch_at on (plain_branches (drop (i + 1) list))) none)) h)
      (λ h. ap (λ others. of_branches on (plain_branches others)) (item_of list b i within is)
      ∙ ap (λ (t : Bool). trees_of (with_part false (if t then Some (item_at on (plain_item b.1)) else branch_at on (plain_branches (drop (i + 1) list))) none)) h)
      so_far added

  pub no_alternative : (i : ℕ) (left : Condition) (now all : List PlainTree) → length list ≤ i → ChosenSoFar i left now all → now ≡ all
  no_alternative i left now all past so_far =
      nothing_left (value on left) now all (subst (λ others. now ++ under (value on left) (of_branches on (plain_branches others)) ≡ all) (drop_all i list past) so_far)

-- ---- part by part

with_part_before : (part : Option PlainTree) (rest : PlainTrees) → trees_of (with_part false part rest) ≡ trees_of (with_part false part none) ++ trees_of rest
with_part_before None rest = refl
with_part_before (Some part) rest = refl

module _ (on : ℕ → Bool) (kind : Kind) (no_statement : (place : ℕ) → needs_statement kind place ≡ false) (list : List (Choice tree.Item)) where
  abbrev pub ListedSoFar : ℕ → List PlainTree → Type 0
  ListedSoFar i now = now ++ trees_of (parts_at on kind i (plain_choices (drop i list))) ≡ trees_of (parts_at on kind 0 (plain_choices list))

  pub one_part :
      (i : ℕ) (x : Choice tree.Item) (now new : List PlainTree) → i < length list → x ≡ get_or list i x
      → new ≡ now ++ of_branches on (plain_branches x.branches.items) → ListedSoFar i now → ListedSoFar (i + 1) new
  one_part i x now new within is added so_far =
      ap (λ (l : List PlainTree). l ++ trees_of (parts_at on kind (i + 1) (plain_choices (drop (i + 1) list)))) added
      ∙ (append_assoc now (of_branches on (plain_branches x.branches.items)) (trees_of (parts_at on kind (i + 1) (plain_choices (drop (i + 1) list))))
      ∙ (ap (λ (l : List PlainTree). now ++ l)
      (sym (ap trees_of (next_part on kind list i x false within is (sym (no_statement i)))
      ∙ with_part_before (branch_at on (plain_branches x.branches.items)) (parts_at on kind (i + 1) (plain_choices (drop (i + 1) list)))))
      ∙ so_far))

  pub no_part : (i : ℕ) (now : List PlainTree) → length list ≤ i → ListedSoFar i now → now ≡ trees_of (parts_at on kind 0 (plain_choices list))
  no_part i now past so_far =
      sym (append-nil now) ∙ subst (λ others. now ++ trees_of (parts_at on kind i (plain_choices others)) ≡ trees_of (parts_at on kind 0 (plain_choices list))) (drop_all i list past) so_far

-- ---- how a list begins

module _ (on : ℕ → Bool) (list : List ListEntry) where
  abbrev pub BegunSoFar : ℕ → Condition → List (List PlainTree) → List (List PlainTree) → Type 0
  BegunSoFar i left now all = now ++ under (value on left) (seen on (entries_at on (drop i list)) ∷ []) ≡ all

  pub one_beginning :
      (i : ℕ) (x : ListEntry) (left here after : Condition) (now new all : List (List PlainTree)) → i < length list → x ≡ get_or list i x
      → value on here ≡ (value on left && value on (condition_of x.when)) → value on after ≡ (value on left && not (value on (condition_of x.when)))
      → new ≡ now ++ under (value on here) ((item_at on (plain_item x.item.now) ∷ seen on (entries_at on (drop (i + 1) list))) ∷ [])
      → BegunSoFar i left now all → BegunSoFar (i + 1) after new all
  one_beginning i x left here after now new all within is is_here is_after added so_far =
      in_turns (value on left) (value on (condition_of x.when)) (value on here) (value on after)
      ((item_at on (plain_item x.item.now) ∷ seen on (entries_at on (drop (i + 1) list))) ∷ []) (seen on (entries_at on (drop (i + 1) list)) ∷ []) (seen on (entries_at on (drop i list)) ∷ [])
      now new all is_here is_after
      (λ h. ap (λ others. seen on (entries_at on others) ∷ []) (item_of list x i within is)
      ∙ ap (λ (t : Bool). (if t then item_at on (plain_item x.item.now) ∷ seen on (entries_at on (drop (i + 1) list)) else seen on (entries_at on (drop (i + 1) list))) ∷ []) h)
      (λ h. ap (λ others. seen on (entries_at on others) ∷ []) (item_of list x i within is)
      ∙ ap (λ (t : Bool). (if t then item_at on (plain_item x.item.now) ∷ seen on (entries_at on (drop (i + 1) list)) else seen on (entries_at on (drop (i + 1) list))) ∷ []) h)
      so_far added

  pub no_beginning :
      (i : ℕ) (left : Condition) (now new all : List (List PlainTree)) → length list ≤ i → new ≡ now ++ under (value on left) ([] ∷ []) → BegunSoFar i left now all → new ≡ all
  no_beginning i left now new all past added so_far =
      added ∙ subst (λ others. now ++ under (value on left) (seen on (entries_at on others) ∷ []) ≡ all) (drop_all i list past) so_far
