-- Alternatives that are set apart one behind the other, and what is seen of them.
use Rattle.std.proofs.Common.{◌≡◌, ℕ, suc, ◌+◌, ◌<◌, ◌≤◌, Bool, true, false, not, ◌&&◌, ◌||◌, List, [], ◌∷◌, ◌++◌, drop, length, get_or, Option, Some, None, IsTrue, refl, sym, ap, ◌∙◌, subst, arith, add-one, drop-cons}
use Rattle.std.specs.Bool.{if◌then◌else◌}
use Rattle.cond_formula.specs.declared.formulas.Formula.{Formula}
use Rattle.cond_formula.specs.Conditions.{condition_of, value}
use Rattle.c_text.specs.Token.{PlainToken}
use Rattle.c_tree.specs.declared.kinds.Kind.{Kind}
use Rattle.c_tree.specs.declared.kinds.Kind.TheVariants.{Unit}
use Rattle.c_tree.specs.Trees.{PlainTree, node}
use Rattle.choice_trees.specs.declared.trees.Choice.{Choice}
use Rattle.choice_trees.specs.declared.trees.Item.{Item}
use Rattle.choice_trees.specs.declared.trees.Forest.{Forest}
use Rattle.choice_trees.specs.ChoiceTrees.{PlainItem, PlainChoices, PlainBranches, token, inner, no_choice, choice, no_branch, branch, plain_item, plain_branches, plain_choices, needs_statement, with_part, item_at, parts_at, branch_at}
use Rattle.choice_trees.specs.Leaves.{Leaf, item_leaves, parts_leaves, branch_leaves}
use Rattle.exclusive_forests.specs.Exclusions.{holding, ItemExcludes, PartsExclude, EachExcludes}
use Rattle.exclusive_forests.specs.Apart.{any_holds, found, ItemApart, FoundApart, ChoiceApart, PartsApart, ForestApart}

module _ (on : ℕ → Bool) where
  -- ---- one alternative more

  abbrev later : Option PlainItem → Option PlainItem → Option PlainItem
  later None second = second
  later (Some first) second = Some first

  chosen : (b : Bool) (first : PlainItem) (second other : Option PlainItem) → (if b then Some first else later second other) ≡ later (if b then Some first else second) other
  chosen true first second other = refl
  chosen false first second other = refl

  found_more : (xs : List (Formula × Item)) (f : Formula) (item : Item)
      → found on (plain_branches (xs ++ (f, item) ∷ [])) ≡ later (found on (plain_branches xs)) (if value on (condition_of f) then Some (plain_item item) else None)
  found_more [] f item = refl
  found_more (x ∷ xs) f item =
      ap (λ r. if value on (condition_of x.0) then Some (plain_item x.1) else r) (found_more xs f item)
      ∙ chosen (value on (condition_of x.0)) (plain_item x.1) (found on (plain_branches xs)) (if value on (condition_of f) then Some (plain_item item) else None)

  holding_more : (xs : List (Formula × Item)) (f : Formula) (item : Item)
      → holding on (plain_branches (xs ++ (f, item) ∷ [])) ≡ holding on (plain_branches xs) + (if value on (condition_of f) then 1 else 0)
  holding_more [] f item = omega arith
  holding_more (x ∷ xs) f item =
      let more : holding on (plain_branches (xs ++ (f, item) ∷ [])) ≡ holding on (plain_branches xs) + (if value on (condition_of f) then 1 else 0) = holding_more xs f item in
      omega (arith, more)

  each_more : (xs : List (Formula × Item)) (f : Formula) (item : Item) → EachExcludes on (plain_branches xs) → ItemExcludes on (plain_item item)
      → EachExcludes on (plain_branches (xs ++ (f, item) ∷ []))
  each_more [] f item each one = (one, tt)
  each_more (x ∷ xs) f item each one = (each.0, each_more xs f item each.1 one)

  none_holds : (alternatives : PlainBranches) → found on alternatives ≡ None → any_holds on alternatives ≡ false
  none_holds no_branch none = refl
  none_holds (branch when item rest) none =
      (elim (value on when) as (λ b. (if b then Some item else found on rest) ≡ None → (b || any_holds on rest) ≡ false) [
        | true ↦ λ some. absurd (cc some)
        | false ↦ λ others. none_holds rest others
      ]) none

  none_held : (alternatives : PlainBranches) → any_holds on alternatives ≡ false → holding on alternatives ≡ 0
  none_held no_branch none = refl
  none_held (branch when item rest) none =
      (elim (value on when) as (λ b. (b || any_holds on rest) ≡ false → (if b then 1 else 0) + holding on rest ≡ 0) [
        | true ↦ λ some. absurd (cc some)
        | false ↦ λ others. let none_there : holding on rest ≡ 0 = none_held rest others in omega (arith, none_there)
      ]) none

  same_found : (v w : Bool) (old new : PlainItem) → w ≡ v → ItemApart on old new → FoundApart on (if v then Some old else None) (if w then Some new else None)
  same_found true true old new is apart = apart
  same_found false false old new is apart = tt
  same_found true false old new is apart = absurd (cc is)
  same_found false true old new is apart = absurd (cc is)

  later_apart : (old new : Option PlainItem) (v w : Bool) (item other : PlainItem) → (new ≡ None → w ≡ v) → ItemApart on item other → FoundApart on old new
      → FoundApart on (later old (if v then Some item else None)) (later new (if w then Some other else None))
  later_apart None None v w item other same apart before = same_found v w item other (same refl) apart
  later_apart None (Some new) v w item other same apart before = absurd before
  later_apart (Some old) None v w item other same apart before = absurd before
  later_apart (Some old) (Some new) v w item other same apart before = before

  and_true : (v any : Bool) → any ≡ false → (v && not any) ≡ v
  and_true true any none = ap not none
  and_true false any none = refl

  and_false : (v : Bool) → (v && false) ≡ false
  and_false true = refl
  and_false false = refl

  first_only : (held : ℕ) (w : Bool) → held ≡ 0 → held + (if w then 1 else 0) ≤ 1
  first_only held true none = omega (arith, none)
  first_only held false none = omega (arith, none)

  one_more : (held : ℕ) (v w any : Bool) → w ≡ (v && not any) → (any ≡ false → held ≡ 0) → held ≤ 1 → held + (if w then 1 else 0) ≤ 1
  one_more held v w true is none low = subst (λ b. held + (if b then 1 else 0) ≤ 1) (sym (is ∙ and_false v)) (omega (arith, low))
  one_more held v w false is none low = first_only held w (none refl)

  pub none_apart : ChoiceApart on no_branch no_branch
  none_apart = record { found_is = tt; one = omega arith; each = tt }

  pub choice_more : (olds news : List (Formula × Item)) (f new : Formula) (item other : Item)
      → value on (condition_of new) ≡ (value on (condition_of f) && not (any_holds on (plain_branches news))) → ItemApart on (plain_item item) (plain_item other)
      → ChoiceApart on (plain_branches olds) (plain_branches news)
      → ChoiceApart on (plain_branches (olds ++ (f, item) ∷ [])) (plain_branches (news ++ (new, other) ∷ []))
  choice_more olds news f new item other is apart before = record {
    found_is =
        subst (λ x. FoundApart on x (found on (plain_branches (news ++ (new, other) ∷ [])))) (sym (found_more olds f item))
        (subst (λ x. FoundApart on (later (found on (plain_branches olds)) (if value on (condition_of f) then Some (plain_item item) else None)) x) (sym (found_more news new other))
        (later_apart (found on (plain_branches olds)) (found on (plain_branches news)) (value on (condition_of f)) (value on (condition_of new)) (plain_item item) (plain_item other)
        (λ none. is ∙ and_true (value on (condition_of f)) (any_holds on (plain_branches news)) (none_holds (plain_branches news) none)) apart before.found_is));
    one =
        subst (λ n. n ≤ 1) (sym (holding_more news new other))
        (one_more (holding on (plain_branches news)) (value on (condition_of f)) (value on (condition_of new)) (any_holds on (plain_branches news)) is (none_held (plain_branches news)) before.one);
    each = each_more news new other before.each apart.excludes;
  }

  -- ---- one part more

  pub parts_more : (olds news : List (Choice Item)) (old new : Choice Item) → ChoiceApart on (plain_branches old.branches.items) (plain_branches new.branches.items)
      → PartsApart on (plain_choices olds) (plain_choices news) → PartsApart on (plain_choices (olds ++ old ∷ [])) (plain_choices (news ++ new ∷ []))
  parts_more [] [] old new one before = (one, tt)
  parts_more [] (n ∷ news) old new one before = absurd before
  parts_more (o ∷ olds) [] old new one before = absurd before
  parts_more (o ∷ olds) (n ∷ news) old new one before = (before.0, parts_more olds news old new one before.1)

  -- ---- what is seen

  abbrev tree_of : Option PlainItem → Option PlainTree
  tree_of None = None
  tree_of (Some item) = Some (item_at on item)

  abbrev leaves_of : Bool → Option PlainItem → List Leaf → List Leaf
  leaves_of needed None behind = branch_leaves on needed no_branch behind
  leaves_of needed (Some item) behind = item_leaves on item behind

  tree_found : (alternatives : PlainBranches) → branch_at on alternatives ≡ tree_of (found on alternatives)
  tree_found no_branch = refl
  tree_found (branch when item rest) =
      elim (value on when) as (λ b. (if b then Some (item_at on item) else branch_at on rest) ≡ tree_of (if b then Some item else found on rest)) [
        | true ↦ refl
        | false ↦ tree_found rest
      ]

  leaves_found : (needed : Bool) (alternatives : PlainBranches) (behind : List Leaf) → branch_leaves on needed alternatives behind ≡ leaves_of needed (found on alternatives) behind
  leaves_found needed no_branch behind = refl
  leaves_found needed (branch when item rest) behind =
      elim (value on when) as (λ b. (if b then item_leaves on item behind else branch_leaves on needed rest behind) ≡ leaves_of needed (if b then Some item else found on rest) behind) [
        | true ↦ refl
        | false ↦ leaves_found needed rest behind
      ]

  tree_alike : (old new : Option PlainItem) → FoundApart on old new → tree_of new ≡ tree_of old
  tree_alike None None apart = refl
  tree_alike None (Some new) apart = absurd apart
  tree_alike (Some old) None apart = absurd apart
  tree_alike (Some old) (Some new) apart = ap Some apart.tree_is

  leaves_alike : (needed : Bool) (old new : Option PlainItem) (behind : List Leaf) → FoundApart on old new → leaves_of needed new behind ≡ leaves_of needed old behind
  leaves_alike needed None None behind apart = refl
  leaves_alike needed None (Some new) behind apart = absurd apart
  leaves_alike needed (Some old) None behind apart = absurd apart
  leaves_alike needed (Some old) (Some new) behind apart = apart.leaves_are behind

  parts_tree : (kind : Kind) (place : ℕ) (olds news : PlainChoices) → PartsApart on olds news → parts_at on kind place news ≡ parts_at on kind place olds
  parts_tree kind place no_choice no_choice apart = refl
  parts_tree kind place no_choice (choice new news) apart = absurd apart
  parts_tree kind place (choice old olds) no_choice apart = absurd apart
  parts_tree kind place (choice old olds) (choice new news) apart =
      ap (λ part. with_part (needs_statement kind place) part (parts_at on kind (suc place) news)) (tree_found new ∙ tree_alike (found on old) (found on new) apart.0.found_is ∙ sym (tree_found old))
      ∙ ap (with_part (needs_statement kind place) (branch_at on old)) (parts_tree kind (suc place) olds news apart.1)

  all_leaves : (kind : Kind) (place : ℕ) (olds news : PlainChoices) (behind : List Leaf) → PartsApart on olds news → parts_leaves on kind place news behind ≡ parts_leaves on kind place olds behind
  all_leaves kind place no_choice no_choice behind apart = refl
  all_leaves kind place no_choice (choice new news) behind apart = absurd apart
  all_leaves kind place (choice old olds) no_choice behind apart = absurd apart
  all_leaves kind place (choice old olds) (choice new news) behind apart =
      ap (branch_leaves on (needs_statement kind place) new) (all_leaves kind (suc place) olds news behind apart.1)
      ∙ leaves_found (needs_statement kind place) new (parts_leaves on kind (suc place) olds behind)
      ∙ leaves_alike (needs_statement kind place) (found on old) (found on new) (parts_leaves on kind (suc place) olds behind) apart.0.found_is
      ∙ sym (leaves_found (needs_statement kind place) old (parts_leaves on kind (suc place) olds behind))

  all_exclude : (olds news : PlainChoices) → PartsApart on olds news → PartsExclude on news
  all_exclude no_choice no_choice apart = tt
  all_exclude no_choice (choice new news) apart = absurd apart
  all_exclude (choice old olds) no_choice apart = absurd apart
  all_exclude (choice old olds) (choice new news) apart = (apart.0.one, apart.0.each, all_exclude olds news apart.1)

  pub leaf_apart : (number : ℕ) (text : PlainToken) → ItemApart on (token number text) (token number text)
  leaf_apart number text = record { tree_is = refl; leaves_are = λ behind. refl; excludes = tt }

  pub node_apart : (kind : Kind) (olds news : PlainChoices) → PartsApart on olds news → ItemApart on (inner kind olds) (inner kind news)
  node_apart kind olds news apart = record {
    tree_is = ap (node kind) (parts_tree kind 0 olds news apart);
    leaves_are = λ behind. all_leaves kind 0 olds news behind apart;
    excludes = all_exclude olds news apart;
  }

  pub forest_apart : (old new : Forest) → PartsApart on (plain_choices old.items.items) (plain_choices new.items.items) → ForestApart on old new
  forest_apart old new apart = record {
    tree_is = ap (node Unit) (parts_tree Unit 0 (plain_choices old.items.items) (plain_choices new.items.items) apart);
    leaves_are = all_leaves Unit 0 (plain_choices old.items.items) (plain_choices new.items.items) [] apart;
    excludes = all_exclude (plain_choices old.items.items) (plain_choices new.items.items) apart;
  }

  -- ---- conditions

  both_not : (a x rest : Bool) → ((a && not x) && not rest) ≡ (a && not (x || rest))
  both_not true true rest = refl
  both_not true false rest = refl
  both_not false x rest = refl

  rest_of : (xs : List (Formula × Item)) (x : Formula × Item) (i : ℕ) → i < length xs → x ≡ get_or xs i x → drop i xs ≡ x ∷ drop (i + 1) xs
  rest_of xs x i within is = rw (add-one, drop-cons xs i x within) (ap (λ y. y ∷ drop (suc i) xs) (sym is))

  -- what is excluded where a condition holds
  pub apart_already : (when other : Bool) → (IsTrue when → other ≡ false) → when ≡ (when && not other)
  apart_already true other excluded = sym (ap not (excluded refl))
  apart_already false other excluded = refl

  pub only_where : (a b now : Bool) → now ≡ (a && b) → IsTrue now → IsTrue a
  only_where true b now is holds = refl
  only_where false b now is holds = sym is ∙ holds

  -- one alternative more isn't true
  pub alone_more : (xs : List (Formula × Item)) (i : ℕ) (x : Formula × Item) (alone now all : Bool) → i < length xs → x ≡ get_or xs i x
      → now ≡ (alone && not (value on (condition_of x.0))) → (alone && not (any_holds on (plain_branches (drop i xs)))) ≡ all
      → (now && not (any_holds on (plain_branches (drop (i + 1) xs)))) ≡ all
  alone_more xs i x alone now all within is step before =
      ap (λ (b : Bool). b && not (any_holds on (plain_branches (drop (i + 1) xs)))) step
      ∙ both_not alone (value on (condition_of x.0)) (any_holds on (plain_branches (drop (i + 1) xs)))
      ∙ ap (λ rest. alone && not (any_holds on (plain_branches rest))) (sym (rest_of xs x i within is))
      ∙ before

-- what is set apart, by the kinds of items
pub ruleset apart_laws = (none_apart, leaf_apart, node_apart, forest_apart)
