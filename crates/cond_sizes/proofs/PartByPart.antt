-- What the alternatives for a part come to, one after the other.
use Rattle.std.proofs.Common.{◌≡◌, ℕ, ◌+◌, ◌<◌, ◌≤◌, Bool, true, false, not, ◌&&◌, ◌||◌, List, drop, length, get_or, IsTrue, if◌then◌else◌, refl, sym, ap, ◌∙◌, subst}
use Rattle.std.proofs.lemmas.List.{drop_all}
use Rattle.std.specs.Prelude.{Some, None}
use Rattle.cond_formula.specs.declared.formulas.Formula.{Formula}
use Rattle.cond_formula.specs.Conditions.{Condition, condition_of, value}
use Rattle.conditional.specs.Judgements.{Shows, Judges}
use Rattle.conditional.specs.declared.outcomes.Outcomes.{Outcomes}
use Rattle.conditional.proofs.ListLaws.{item_of}
use Rattle.c_tree.specs.Trees.{PlainTree}
use Rattle.choice_trees.specs.declared.trees.Item.{Item}
use Rattle.choice_trees.specs.ChoiceTrees.{plain_item, plain_branches, item_at, branch_at}
use Rattle.operand_rules.specs.declared.operands.Refused.{Refused}
use Rattle.operand_rules.specs.PlainOperandTypes.{reason}
use Rattle.cond_sizes.specs.declared.elements.Count.{Count}
use Rattle.cond_sizes.specs.Sizes.{plain_count, ShowsCount}
use Rattle.cond_sizes.specs.Totals.{Measured, of_part}

turn : (left when here after : Bool) → here ≡ (left && when) → after ≡ (left && not when) → (not left || here) ≡ not after
turn true true here after is_here is_after = is_here ∙ ap not (sym is_after)
turn true false here after is_here is_after = is_here ∙ ap not (sym is_after)
turn false when here after is_here is_after = ap not (sym is_after)

both_of : (left when here : Bool) → here ≡ (left && when) → IsTrue here → (left ≡ true) × (when ≡ true)
both_of true true here is t = (refl, refl)
both_of true false here is t = cc
both_of false when here is t = cc

first_of : (left when after : Bool) → after ≡ (left && not when) → after ≡ true → (left ≡ true) × (when ≡ false)
first_of true true after is t = cc
first_of true false after is t = (refl, refl)
first_of false when after is t = cc

all_of : (left : Bool) → (not left || left) ≡ true
all_of true = refl
all_of false = refl

module _ (measure : PlainTree → Measured) (needed : Bool) (on : ℕ → Bool) (list : List (Formula × Item)) where
  abbrev part_from : ℕ → Measured
  part_from i = of_part measure needed (branch_at on (plain_branches (drop i list)))

  -- what has been placed is what the part comes to, where it is no later alternative that is taken
  pub record PartSoFar (i : ℕ) (left : Condition) (all : Outcomes Count Refused) : Type 0 where
    pub shows : Shows plain_count reason on (not (value on left)) (part_from 0) all
    pub rest : value on left ≡ true → part_from i ≡ part_from 0

  pub part_start : (left : Condition) (all : Outcomes Count Refused) → value on left ≡ true → Shows plain_count reason on false (part_from 0) all → PartSoFar 0 left all
  part_start left all is nothing = record {
    shows = subst (λ b. Shows plain_count reason on (not b) (part_from 0) all) (sym is) nothing;
    rest = λ h. refl;
  }

  pub part_step :
      (i : ℕ) (b : Formula × Item) (left here after : Condition) (what : Measured) (old new : Outcomes Count Refused) → i < length list → b ≡ get_or list i b
      → value on here ≡ (value on left && value on (condition_of b.0)) → value on after ≡ (value on left && not (value on (condition_of b.0)))
      → what ≡ measure (item_at on (plain_item b.1)) → Judges plain_count reason on here what old new → PartSoFar i left old → PartSoFar (i + 1) after new
  part_step i b left here after what old new within is is_here is_after is_what judged before =
      let e = item_of list b i within is in
      let now : part_from i ≡ of_part measure needed (if value on (condition_of b.0) then Some (item_at on (plain_item b.1)) else branch_at on (plain_branches (drop (i + 1) list))) =
      ap (λ others. of_part measure needed (branch_at on (plain_branches others))) e in
      let at : (k : Bool) → value on (condition_of b.0) ≡ k → part_from i ≡ of_part measure needed (if k then Some (item_at on (plain_item b.1)) else branch_at on (plain_branches (drop (i + 1) list))) =
      λ k h. now ∙ ap (λ t. of_part measure needed (if t then Some (item_at on (plain_item b.1)) else branch_at on (plain_branches (drop (i + 1) list)))) h in
      record {
        shows =
            subst (λ t. Shows plain_count reason on t (part_from 0) new) (turn (value on left) (value on (condition_of b.0)) (value on here) (value on after) is_here is_after)
            (judged.shows (not (value on left)) (part_from 0) before.shows
            (λ t. let h = both_of (value on left) (value on (condition_of b.0)) (value on here) is_here t in is_what ∙ (sym (at true h.1) ∙ before.rest h.0)));
        rest = λ t. let h = first_of (value on left) (value on (condition_of b.0)) (value on after) is_after t in sym (at false h.1) ∙ before.rest h.0;
      }

  pub part_end :
      (i : ℕ) (left : Condition) (what : Measured) (old new : Outcomes Count Refused) → length list ≤ i → what ≡ of_part measure needed None → Judges plain_count reason on left what old new
      → PartSoFar i left old → ShowsCount on (part_from 0) new
  part_end i left what old new past is_what judged before =
      subst (λ t. Shows plain_count reason on t (part_from 0) new) (all_of (value on left))
      (judged.shows (not (value on left)) (part_from 0) before.shows
      (λ t. is_what ∙ (sym (ap (λ others. of_part measure needed (branch_at on (plain_branches others))) (drop_all i list past)) ∙ before.rest t)))
