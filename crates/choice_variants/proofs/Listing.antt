-- Variants that go on part by part.
use Rattle.std.proofs.Common.{◌≡◌, ℕ, zero, suc, ◌+◌, ◌<◌, ◌≤◌, Bool, true, false, not, ◌&&◌, List, [], ◌∷◌, ◌++◌, drop, length, get_or, Option, Some, None, refl, sym, ap, ap₂, ◌∙◌, subst, arith, add-one, append-nil, if◌then◌else◌}
use Rattle.std.proofs.lemmas.List.{drop_all, map-append}
use Rattle.cond_formula.specs.declared.formulas.Formula.{Formula}
use Rattle.cond_formula.specs.Conditions.{Condition, condition_of, value}
use Rattle.conditional.specs.Entries.{seen, under}
use Rattle.conditional.proofs.ListLaws.{item_of}
use Rattle.c_tree.specs.declared.kinds.Kind.{Kind}
use Rattle.c_tree.specs.Trees.{PlainTrees, more}
use Rattle.choice_trees.specs.declared.trees.Choice.{Choice}
use Rattle.choice_trees.specs.declared.trees.Item as tree
use Rattle.choice_trees.specs.ChoiceTrees.{PlainItem, PlainBranches, branch, plain_item, plain_branches, plain_choices, needs_statement, with_part, item_at, branch_at, parts_at}
use Rattle.choice_variants.specs.declared.parts.Part.{Part}
use Rattle.choice_variants.specs.declared.parts.Variant.{Variant}
use Rattle.choice_variants.specs.Variants.{part_at, before, perhaps_before, variant_before, followed, shown, part_depth, AreLow, IsLowIfAny, AreAllLow}
use Rattle.choice_variants.proofs.Adding.{seen_with, next_added, added_by_turns}

-- ---- one part more

pub before-end : (on : ℕ → Bool) (parts : List Part) (part : Part) (rest : PlainTrees) → before on (parts ++ part ∷ []) rest ≡ before on parts (more (part_at on part) rest)
before-end on [] part rest = refl
before-end on (first ∷ others) part rest = ap (more (part_at on first)) (before-end on others part rest)

pub low-end : (n : ℕ) (parts : List Part) (part : Part) → AreLow n parts → part_depth part ≤ n → AreLow n (parts ++ part ∷ [])
low-end n [] part low also = (also, tt)
low-end n (first ∷ others) part low also = (low.0, low-end n others part low.1 also)

-- ---- one variant more

pub variant_added :
    (on : ℕ → Bool) (rest : PlainTrees) (x : Variant) (old new : List Variant) → new ≡ old ++ x ∷ []
    → seen on (followed on rest new) ≡ seen on (followed on rest old) ++ under (value on (condition_of x.when)) (before on x.parts.items rest ∷ [])
variant_added on rest x old new is =
    rw (is, map-append (variant_before on rest) old (x ∷ [])) (seen_with on (followed on rest old) (variant_before on rest x))

pub all_low-end : (n : ℕ) (old : List Variant) (x : Variant) → AreAllLow n old → AreLow n x.parts.items → AreAllLow n (old ++ x ∷ [])
all_low-end n [] x low also = (also, tt)
all_low-end n (first ∷ others) x low also = (low.0, all_low-end n others x low.1 also)

-- ---- the alternatives for a part

module _ (on : ℕ → Bool) (needed : Bool) (parts : List Part) (rest : PlainTrees) where
  -- parts, then what is seen of alternatives, then trees
  abbrev pub ahead : PlainBranches → PlainTrees
  ahead branches = before on parts (with_part needed (branch_at on branches) rest)

  taken : (when : Condition) (item : PlainItem) (others : PlainBranches) → value on when ≡ true → ahead (branch when item others) ≡ before on parts (more (item_at on item) rest)
  taken when item others is = ap (λ (b : Bool). before on parts (with_part needed (if b then Some (item_at on item) else branch_at on others) rest)) is

  passed : (when : Condition) (item : PlainItem) (others : PlainBranches) → value on when ≡ false → ahead (branch when item others) ≡ ahead others
  passed when item others is = ap (λ (b : Bool). before on parts (with_part needed (if b then Some (item_at on item) else branch_at on others) rest)) is

  -- each of the alternatives so far is added, where it is the first that holds
  abbrev pub AddedSoFar : List (Formula × tree.Item) → ℕ → Condition → List PlainTrees → List PlainTrees → Type 0
  AddedSoFar list i left now all = now ++ under (value on left) (ahead (plain_branches (drop i list)) ∷ []) ≡ all

  pub one_alternative :
      (list : List (Formula × tree.Item)) (i : ℕ) (b : Formula × tree.Item) (left here after : Condition) (now new all : List PlainTrees)
      → i < length list → b ≡ get_or list i b
      → value on here ≡ (value on left && value on (condition_of b.0)) → value on after ≡ (value on left && not (value on (condition_of b.0)))
      → new ≡ now ++ under (value on here) (before on parts (more (item_at on (plain_item b.1)) rest) ∷ [])
      → AddedSoFar list i left now all → AddedSoFar list (i + 1) after new all
  one_alternative list i b left here after now new all within is is_here is_after added so_far =
      added_by_turns (value on left) (value on (condition_of b.0)) (value on here) (value on after)
      (before on parts (more (item_at on (plain_item b.1)) rest)) (ahead (plain_branches (drop (i + 1) list))) (ahead (branch (condition_of b.0) (plain_item b.1) (plain_branches (drop (i + 1) list))))
      now new all is_here is_after
      (taken (condition_of b.0) (plain_item b.1) (plain_branches (drop (i + 1) list)))
      (passed (condition_of b.0) (plain_item b.1) (plain_branches (drop (i + 1) list)))
      (subst (λ others. now ++ under (value on left) (ahead (plain_branches others) ∷ []) ≡ all) (item_of list b i within is) so_far) added

  pub no_alternative :
      (list : List (Formula × tree.Item)) (i : ℕ) (left : Condition) (what : PlainTrees) (now new all : List PlainTrees)
      → length list ≤ i → what ≡ before on parts (with_part needed None rest)
      → new ≡ now ++ under (value on left) (what ∷ []) → AddedSoFar list i left now all → new ≡ all
  no_alternative list i left what now new all past is added so_far =
      added ∙ (ap (λ w. now ++ under (value on left) (w ∷ [])) is
      ∙ subst (λ others. now ++ under (value on left) (ahead (plain_branches others) ∷ []) ≡ all) (drop_all i list past) so_far)

-- ---- the variants that go on

module _ (on : ℕ → Bool) (whole rest : PlainTrees) (list : List Variant) where
  -- each of the variants so far goes on by the trees behind one part more
  abbrev pub SoFar : ℕ → List Variant → Type 0
  SoFar i now = seen on (followed on rest now) ++ seen on (followed on whole (drop i list)) ≡ seen on (followed on whole list)

  pub one_variant :
      (i : ℕ) (x : Variant) (now new : List Variant) → i < length list → x ≡ get_or list i x
      → seen on (followed on rest new) ≡ seen on (followed on rest now) ++ under (value on (condition_of x.when)) (before on x.parts.items whole ∷ [])
      → SoFar i now → SoFar (i + 1) new
  one_variant i x now new within is added so_far =
      next_added (value on (condition_of x.when)) (before on x.parts.items whole) (seen on (followed on whole (drop (i + 1) list)))
      (seen on (followed on rest now)) (seen on (followed on rest new)) (seen on (followed on whole list))
      (subst (λ others. seen on (followed on rest now) ++ seen on (followed on whole others) ≡ seen on (followed on whole list)) (item_of list x i within is) so_far) added

  pub all_variants : (i : ℕ) (now : List Variant) → length list ≤ i → SoFar i now → seen on (followed on rest now) ≡ seen on (followed on whole list)
  all_variants i now past so_far =
      sym (append-nil (seen on (followed on rest now)))
      ∙ subst (λ others. seen on (followed on rest now) ++ seen on (followed on whole others) ≡ seen on (followed on whole list)) (drop_all i list past) so_far

-- ---- ends and beginnings

pub some_more :
    (on : ℕ → Bool) (parts all items : List Part) (o : Option Part) (part : Part) → all ≡ parts → o ≡ Some part → items ≡ all ++ part ∷ []
    → (rest : PlainTrees) → before on items rest ≡ before on parts (perhaps_before on o rest)
some_more on parts all items o part same is grown rest = rw (grown, same, is) (before-end on parts part rest)

pub low_with :
    (n : ℕ) (parts all items : List Part) (o : Option Part) (part : Part) → all ≡ parts → o ≡ Some part → items ≡ all ++ part ∷ []
    → AreLow n parts → IsLowIfAny n o → AreLow n items
low_with n parts all items o part same is grown low also = rw (grown, same) (low-end n parts part low (subst (IsLowIfAny n) is also))

pub low_at : (n : ℕ) (list : List Variant) (i : ℕ) (x : Variant) → i < length list → AreAllLow n list → AreLow n (get_or list i x).parts.items
low_at n [] i x within low = absurd (omega (arith, within))
low_at n (first ∷ others) zero x within low = low.0
low_at n (first ∷ others) (suc i) x within low = low_at n others i x (omega (arith, within)) low.1

pub begins :
    (on : ℕ → Bool) (x : Variant) (items : List Variant) (all : PlainTrees) → items ≡ x ∷ [] → value on (condition_of x.when) ≡ true → x.parts.items ≡ []
    → seen on (followed on all items) ≡ all ∷ []
begins on x items all is holds empty = rw (is, holds) (ap (λ ps. before on ps all ∷ []) empty)

pub low_begins : (n : ℕ) (x : Variant) (items : List Variant) → items ≡ x ∷ [] → x.parts.items ≡ [] → AreAllLow n items
low_begins n x items is empty = rw (is, empty) (tt, tt)

-- the parts from one place on are the one there and those behind it
pub next_part :
    (on : ℕ → Bool) (kind : Kind) (list : List (Choice tree.Item)) (i : ℕ) (x : Choice tree.Item) (needed : Bool) → i < length list → x ≡ get_or list i x → needed ≡ needs_statement kind i
    → parts_at on kind i (plain_choices (drop i list)) ≡ with_part needed (branch_at on (plain_branches x.branches.items)) (parts_at on kind (i + 1) (plain_choices (drop (i + 1) list)))
next_part on kind list i x needed within is is_needed =
    ap (λ rest. parts_at on kind i (plain_choices rest)) (item_of list x i within is) ∙
    ap₂ (λ b n. with_part b (branch_at on (plain_branches x.branches.items)) (parts_at on kind n (plain_choices (drop (i + 1) list)))) (sym is_needed) (sym (add-one i))

pub parts_end :
    (on : ℕ → Bool) (kind : Kind) (list : List (Choice tree.Item)) (i : ℕ) (all : List Variant) (whole : PlainTrees) → length list ≤ i
    → seen on (followed on (parts_at on kind i (plain_choices (drop i list))) all) ≡ whole ∷ [] → seen on (shown on all) ≡ whole ∷ []
parts_end on kind list i all whole past alone =
    subst (λ rest. seen on (followed on (parts_at on kind i (plain_choices rest)) all) ≡ whole ∷ []) (drop_all i list past) alone
