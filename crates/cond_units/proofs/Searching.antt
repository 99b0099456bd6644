-- A search goes on by the alternatives for a part, and by one part after the other.
use Rattle.std.proofs.Common.{◌≡◌, ℕ, ◌+◌, ◌<◌, ◌≤◌, Bool, true, false, not, ◌&&◌, ◌||◌, List, drop, length, get_or, Option, Some, None, refl, sym, ap, ap₂, ◌∙◌, subst, if◌then◌else◌}
use Rattle.std.proofs.lemmas.List.{drop_all}
use Rattle.cond_formula.specs.declared.formulas.Formula.{Formula}
use Rattle.cond_formula.specs.Conditions.{Condition, condition_of, value}
use Rattle.conditional.proofs.ListLaws.{item_of}
use Rattle.c_tree.specs.declared.kinds.Kind.{Kind}
use Rattle.c_tree.specs.Trees.{PlainTree, PlainTrees, none, more}
use Rattle.choice_trees.specs.declared.trees.Choice.{Choice}
use Rattle.choice_trees.specs.declared.trees.Item as tree
use Rattle.choice_trees.specs.ChoiceTrees.{PlainBranches, plain_item, plain_branches, plain_choices, needs_statement, with_part, item_at, branch_at, parts_at}
use Rattle.choice_variants.proofs.Listing.{next_part}
use Rattle.cond_units.specs.declared.tags.Word.{Word}
use Rattle.cond_units.specs.declared.tags.Search.{Search}
use Rattle.cond_units.specs.Tags.{has_tag, part_has_tag, first_has_tag, comes, ends}

-- what is known already, or by the first alternative, or by the others
pub in_turns : (untaken when now x y : Bool) → ((now || ((untaken && when) && x)) || ((untaken && not when) && y)) ≡ (now || (untaken && (if when then x else y)))
in_turns false when true x y = refl
in_turns false when false x y = refl
in_turns true when true x y = refl
in_turns true true false true y = refl
in_turns true true false false y = refl
in_turns true false false x y = refl

module _ (on : ℕ → Bool) (tag : List ℕ) (needed : Bool) (rest : PlainTrees) where
  -- alternatives, and then words
  abbrev pub ahead : PlainBranches → Bool
  ahead branches = has_tag tag (with_part needed (branch_at on branches) rest)

  by_test : (t : Bool) (item : PlainTree) (others : Option PlainTree)
      → has_tag tag (with_part needed (if t then Some item else others) rest) ≡ (if t then has_tag tag (more item rest) else has_tag tag (with_part needed others rest))
  by_test true item others = refl
  by_test false item others = refl

  module _ (list : List (Formula × tree.Item)) where
    -- what comes of the alternatives so far, or of the others where none of them holds
    abbrev pub SearchedSoFar : ℕ → Condition → Bool → Bool → Type 0
    SearchedSoFar i untaken now all = (now || (value on untaken && ahead (plain_branches (drop i list)))) ≡ all

    pub one_word :
        (i : ℕ) (b : Formula × tree.Item) (untaken here after : Condition) (word : Word) (now new all : Bool) → i < length list → b ≡ get_or list i b
        → value on here ≡ (value on untaken && value on (condition_of b.0)) → value on after ≡ (value on untaken && not (value on (condition_of b.0)))
        → comes word (has_tag tag rest) ≡ has_tag tag (more (item_at on (plain_item b.1)) rest)
        → new ≡ (now || (value on here && comes word (has_tag tag rest)))
        → SearchedSoFar i untaken now all → SearchedSoFar (i + 1) after new all
    one_word i b untaken here after word now new all within is is_here is_after is_word added so_far =
        ap₂ (λ (n a : Bool). n || (a && ahead (plain_branches (drop (i + 1) list)))) (added ∙ ap₂ (λ (h w : Bool). now || (h && w)) is_here is_word) is_after
        ∙ (in_turns (value on untaken) (value on (condition_of b.0)) now (has_tag tag (more (item_at on (plain_item b.1)) rest)) (ahead (plain_branches (drop (i + 1) list)))
        ∙ (ap (λ (z : Bool). now || (value on untaken && z))
        (sym (ap (λ others. ahead (plain_branches others)) (item_of list b i within is)
        ∙ by_test (value on (condition_of b.0)) (item_at on (plain_item b.1)) (branch_at on (plain_branches (drop (i + 1) list)))))
        ∙ so_far))

    pub no_word : (i : ℕ) (untaken : Condition) (now new all : Bool) → length list ≤ i → new ≡ (now || (value on untaken && has_tag tag (with_part needed None rest))) → SearchedSoFar i untaken now all → new ≡ all
    no_word i untaken now new all past added so_far =
        added ∙ subst (λ others. (now || (value on untaken && ahead (plain_branches others))) ≡ all) (drop_all i list past) so_far

-- ---- part by part

nothing_more : (found left : Bool) → (found || (left && false)) ≡ found
nothing_more true left = refl
nothing_more false true = refl
nothing_more false false = refl

module _ (on : ℕ → Bool) (asked : PlainTrees → Bool) (kind : Kind) (list : List (Choice tree.Item)) where
  -- a search with which what comes of the rest is what comes of all parts
  abbrev pub CameSoFar : ℕ → Search → Type 0
  CameSoFar i search = ends on search (asked (parts_at on kind i (plain_choices (drop i list)))) ≡ asked (parts_at on kind 0 (plain_choices list))

  pub one_part :
      (i : ℕ) (x : Choice tree.Item) (needed : Bool) (old new : Search) → i < length list → x ≡ get_or list i x → needed ≡ needs_statement kind i
      → ((rest : PlainTrees) → ends on new (asked rest) ≡ ends on old (asked (with_part needed (branch_at on (plain_branches x.branches.items)) rest)))
      → CameSoFar i old → CameSoFar (i + 1) new
  one_part i x needed old new within is is_needed steps so_far =
      steps (parts_at on kind (i + 1) (plain_choices (drop (i + 1) list)))
      ∙ (ap (λ parts. ends on old (asked parts)) (sym (next_part on kind list i x needed within is is_needed)) ∙ so_far)

  pub no_part : (i : ℕ) (search : Search) → length list ≤ i → asked none ≡ false → CameSoFar i search → value on (condition_of search.found) ≡ asked (parts_at on kind 0 (plain_choices list))
  no_part i search past is_none so_far =
      sym (nothing_more (value on (condition_of search.found)) (value on (condition_of search.left)))
      ∙ (ap (λ (b : Bool). value on (condition_of search.found) || (value on (condition_of search.left) && b)) (sym is_none)
      ∙ subst (λ others. ends on search (asked (parts_at on kind i (plain_choices others))) ≡ asked (parts_at on kind 0 (plain_choices list))) (drop_all i list past) so_far)

-- ---- the first part that is there

module _ (on : ℕ → Bool) (tag : List ℕ) (rest : PlainTrees) where
  -- alternatives for a part, and others behind it
  abbrev pub begins : PlainBranches → Bool
  begins branches = first_has_tag tag (with_part false (branch_at on branches) rest)

  by_first : (t : Bool) (item : PlainTree) (others : Option PlainTree)
      → first_has_tag tag (with_part false (if t then Some item else others) rest) ≡ (if t then part_has_tag tag item else first_has_tag tag (with_part false others rest))
  by_first true item others = refl
  by_first false item others = refl

  module _ (list : List (Formula × tree.Item)) where
    abbrev pub BegunSoFar : ℕ → Search → Bool → Type 0
    BegunSoFar i search all = ends on search (begins (plain_branches (drop i list))) ≡ all

    pub one_first :
        (i : ℕ) (b : Formula × tree.Item) (old new : Search) (all : Bool) → i < length list → b ≡ get_or list i b
        → ((behind : Bool) → ends on new behind ≡ ends on old (if value on (condition_of b.0) then part_has_tag tag (item_at on (plain_item b.1)) else behind))
        → BegunSoFar i old all → BegunSoFar (i + 1) new all
    one_first i b old new all within is steps so_far =
        steps (begins (plain_branches (drop (i + 1) list)))
        ∙ (ap (ends on old)
        (sym (ap (λ others. begins (plain_branches others)) (item_of list b i within is)
        ∙ by_first (value on (condition_of b.0)) (item_at on (plain_item b.1)) (branch_at on (plain_branches (drop (i + 1) list)))))
        ∙ so_far)

    pub no_first : (i : ℕ) (search : Search) (all : Bool) → length list ≤ i → BegunSoFar i search all → ends on search (first_has_tag tag rest) ≡ all
    no_first i search all past so_far = subst (λ others. ends on search (begins (plain_branches others)) ≡ all) (drop_all i list past) so_far
