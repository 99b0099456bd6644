-- What stands for a part, by its alternatives.
use Rattle.std.proofs.Common.{◌≡◌, ℕ, ◌+◌, ◌<◌, ◌≤◌, Bool, true, false, not, ◌&&◌, List, [], ◌∷◌, ◌++◌, map, drop, length, get_or, if◌then◌else◌, sym, ap, ◌∙◌, subst}
use Rattle.std.specs.Prelude.{Option, Some, None}
use Rattle.std.proofs.lemmas.List.{drop_all, map-append}
use Rattle.cond_formula.specs.declared.formulas.Formula.{Formula}
use Rattle.cond_formula.specs.Conditions.{Condition, condition_of, value}
use Rattle.conditional.specs.Entries.{seen, under}
use Rattle.conditional.proofs.ListLaws.{item_of}
use Rattle.c_tree.specs.Trees.{PlainTree, plain_tree}
use Rattle.choice_trees.specs.declared.trees.Item.{Item}
use Rattle.choice_trees.specs.ChoiceTrees.{PlainItem, PlainBranches, branch, plain_item, plain_branches, item_at, branch_at}
use Rattle.choice_variants.proofs.Adding.{seen_with, added_by_turns}
use Rattle.choice_expansions.specs.declared.alternatives.PartExpansion.{PartExpansion}
use Rattle.choice_expansions.specs.declared.rows.Expansion.{Expansion}
use Rattle.choice_expansions.specs.Expansions.{expanded, plain_part, parts_expanded}
use Rattle.choice_expansions.proofs.Crossing.{mapped_under, nothing_under}

pub part_added :
    (on : ℕ → Bool) (x : PartExpansion) (old new : List PartExpansion) → new ≡ old ++ x ∷ []
    → seen on (parts_expanded new) ≡ seen on (parts_expanded old) ++ under (value on (condition_of x.when)) ((plain_part x).what ∷ [])
part_added on x old new is = rw (is, map-append plain_part old (x ∷ [])) (seen_with on (parts_expanded old) (plain_part x))

-- ---- the trees of an alternative

module _ (on : ℕ → Bool) (here : Bool) (list : List Expansion) where
  -- the trees of the expansions so far are added
  abbrev pub TreesSoFar : ℕ → List (Option PlainTree) → List (Option PlainTree) → Type 0
  TreesSoFar i now all = now ++ under here (map Some (seen on (expanded (drop i list)))) ≡ all

  pub one_tree :
      (i : ℕ) (x : Expansion) (now new all : List (Option PlainTree)) → i < length list → x ≡ get_or list i x
      → new ≡ now ++ under (here && value on (condition_of x.when)) (Some (plain_tree x.tree) ∷ []) → TreesSoFar i now all → TreesSoFar (i + 1) new all
  one_tree i x now new all within is added so_far =
      mapped_under Some here (value on (condition_of x.when)) (plain_tree x.tree) (seen on (expanded (drop (i + 1) list))) now new all
      (subst (λ others. now ++ under here (map Some (seen on (expanded others))) ≡ all) (item_of list x i within is) so_far) added

  pub all_trees : (i : ℕ) (now all : List (Option PlainTree)) → length list ≤ i → TreesSoFar i now all → now ≡ all
  all_trees i now all past so_far =
      sym (nothing_under here now) ∙ subst (λ others. now ++ under here (map Some (seen on (expanded others))) ≡ all) (drop_all i list past) so_far

-- ---- one alternative after the other

module _ (on : ℕ → Bool) where
  taken : (when : Condition) (item : PlainItem) (others : PlainBranches) → value on when ≡ true → branch_at on (branch when item others) ≡ Some (item_at on item)
  taken when item others is = ap (λ (b : Bool). if b then Some (item_at on item) else branch_at on others) is

  passed : (when : Condition) (item : PlainItem) (others : PlainBranches) → value on when ≡ false → branch_at on (branch when item others) ≡ branch_at on others
  passed when item others is = ap (λ (b : Bool). if b then Some (item_at on item) else branch_at on others) is

  module _ (list : List (Formula × Item)) where
    -- the alternatives so far are added, each where it is the first that holds
    abbrev pub ChosenSoFar : ℕ → Condition → List (Option PlainTree) → Type 0
    ChosenSoFar i left now = now ++ under (value on left) (branch_at on (plain_branches (drop i list)) ∷ []) ≡ branch_at on (plain_branches list) ∷ []

    pub one_choice :
        (i : ℕ) (b : Formula × Item) (left here after : Condition) (now new : List (Option PlainTree)) → i < length list → b ≡ get_or list i b
        → value on here ≡ (value on left && value on (condition_of b.0)) → value on after ≡ (value on left && not (value on (condition_of b.0)))
        → new ≡ now ++ under (value on here) (Some (item_at on (plain_item b.1)) ∷ []) → ChosenSoFar i left now → ChosenSoFar (i + 1) after new
    one_choice i b left here after now new within is is_here is_after added so_far =
        added_by_turns (value on left) (value on (condition_of b.0)) (value on here) (value on after)
        (Some (item_at on (plain_item b.1))) (branch_at on (plain_branches (drop (i + 1) list))) (branch_at on (branch (condition_of b.0) (plain_item b.1) (plain_branches (drop (i + 1) list))))
        now new (branch_at on (plain_branches list) ∷ []) is_here is_after
        (taken (condition_of b.0) (plain_item b.1) (plain_branches (drop (i + 1) list))) (passed (condition_of b.0) (plain_item b.1) (plain_branches (drop (i + 1) list)))
        (subst (λ others. now ++ under (value on left) (branch_at on (plain_branches others) ∷ []) ≡ branch_at on (plain_branches list) ∷ []) (item_of list b i within is) so_far) added

    pub no_choice :
        (i : ℕ) (left : Condition) (now new : List (Option PlainTree)) → length list ≤ i → new ≡ now ++ under (value on left) (None ∷ []) → ChosenSoFar i left now
        → new ≡ branch_at on (plain_branches list) ∷ []
    no_choice i left now new past added so_far =
        added ∙ subst (λ others. now ++ under (value on left) (branch_at on (plain_branches others) ∷ []) ≡ branch_at on (plain_branches list) ∷ []) (drop_all i list past) so_far
