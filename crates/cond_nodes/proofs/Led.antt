-- Each of the values under conditions leads to a judgement that is conditional itself, and these are placed one after the other.
use Rattle.std.proofs.Common.{◌≡◌, ℕ, Bool, true, false, not, ◌&&◌, ◌||◌, List, [], ◌∷◌, Option, Some, None, IsTrue, refl, sym, ap, ◌∙◌, subst}
use Rattle.std.proofs.Math.Bool.{or_assoc, or-false}
use Rattle.cond_formula.specs.Conditions.{Condition, condition_of, value}
use Rattle.conditional.specs.declared.entries.Guarded.{Guarded}
use Rattle.conditional.specs.declared.outcomes.Outcomes.{Outcomes}
use Rattle.conditional.specs.Entries.{Entry, entries_of, some_holds, Carry, Stands, Sees}
use Rattle.conditional.specs.Judgements.{refused, Shows, Judges, JudgesUnder}
use Rattle.conditional.proofs.ListLaws.{with_true}
use Rattle.conditional.proofs.ValueLaws.{none_carry}
use Rattle.operand_rules.specs.declared.operands.OperandType.{OperandType}
use Rattle.operand_rules.specs.declared.operands.Refused.{Refused}
use Rattle.operand_rules.specs.PlainOperandTypes.{plain_operand_type, reason}
use Rattle.cond_operands.specs.Operands.{Judged, ShowsOperand}
use Rattle.cond_nodes.specs.Leading.{given_by, if_any}

-- how far judgements have been placed: v is shown where one of those placed holds
pub record LedSoFar (on : ℕ → Bool) (v : Judged) (whole rest : List (Entry Judged)) (all : Outcomes OperandType Refused) : Type 0 where
  pub held : Bool
  pub same : (held || some_holds on rest) ≡ some_holds on whole
  pub left : Carry on v rest
  pub shows : Shows plain_operand_type reason on held v all

pub led_start : (on : ℕ → Bool) (v : Judged) (whole : List (Entry Judged)) (all : Outcomes OperandType Refused) → Carry on v whole → Shows plain_operand_type reason on false v all → LedSoFar on v whole whole all
led_start on v whole all carry nothing = record { held = false; same = refl; left = carry; shows = nothing }

pub led_step :
    (on : ℕ → Bool) (v : Judged) (x : Entry Judged) (whole rest : List (Entry Judged)) (more old new : Outcomes OperandType Refused)
    → LedSoFar on v whole (x ∷ rest) old → JudgesUnder plain_operand_type reason on x.when more old new → ShowsOperand on x.what more → LedSoFar on v whole rest new
led_step on v x whole rest more old new before judged shown = record {
  held = before.held || (value on x.when && true);
  same =
      ap (λ (b : Bool). (before.held || b) || some_holds on rest) (sym (with_true (value on x.when))) ∙
      (or_assoc before.held (value on x.when) (some_holds on rest) ∙ before.same);
  left = before.left.1;
  shows = judged.shows before.held true v before.shows (λ t. subst (λ o. Shows plain_operand_type reason on true o more) (before.left.0 t) shown);
}

pub led_end : (on : ℕ → Bool) (v : Judged) (whole : List (Entry Judged)) (all : Outcomes OperandType Refused) → LedSoFar on v whole [] all → Shows plain_operand_type reason on (some_holds on whole) v all
led_end on v whole all so_far = subst (λ b. Shows plain_operand_type reason on b v all) (sym (or-false so_far.held) ∙ so_far.same) so_far.shows

never_both : {B : Type 0} (h e : Bool) → e ≡ not h → IsTrue h → IsTrue e → B
never_both true e is held t = cc
never_both false e is held t = cc

one_of_both : (h e : Bool) → e ≡ not h → (h || e) ≡ true
one_of_both true e is = refl
one_of_both false e is = is

-- ---- what is given for values

module _ {S A : Type 0} (form : S → A) (gives : A → Judged) (on : ℕ → Bool) where
  pub held_alike : (xs : List (Guarded S)) → some_holds on (given_by form gives xs) ≡ some_holds on (entries_of form xs)
  held_alike [] = refl
  held_alike (x ∷ xs) = ap (λ (b : Bool). value on (condition_of x.when) || b) (held_alike xs)

  pub carry_given : (a : A) (xs : List (Guarded S)) → Carry on a (entries_of form xs) → Carry on (gives a) (given_by form gives xs)
  carry_given a [] carry = tt
  carry_given a (x ∷ xs) carry = ((λ t. ap gives (carry.0 t)), carry_given a xs carry.1)

  -- the judgement for the value that is seen is shown
  pub stands_given :
      (a : A) (xs : List (Guarded S)) (all : Outcomes OperandType Refused) → Stands on a (entries_of form xs)
      → ((v : Judged) → Carry on v (given_by form gives xs) → Shows plain_operand_type reason on (some_holds on (given_by form gives xs)) v all)
      → ShowsOperand on (gives a) all
  stands_given a xs all stands led =
      subst (λ b. Shows plain_operand_type reason on b (gives a) all) (held_alike xs ∙ stands.held) (led (gives a) (carry_given a xs stands.carry))

  -- and elsewhere a refusal
  pub given_or_refused :
      (xs : List (Guarded S)) (elsewhere : Condition) (all new : Outcomes OperandType Refused) → value on elsewhere ≡ not (some_holds on (entries_of form xs))
      → ((v : Judged) → Carry on v (given_by form gives xs) → Shows plain_operand_type reason on (some_holds on (given_by form gives xs)) v all)
      → Judges plain_operand_type reason on elsewhere (refused tt) all new
      → (a : Option A) → Sees on a (entries_of form xs) → ShowsOperand on (if_any gives a) new
  given_or_refused xs elsewhere all new is led judged None none =
      subst (λ b. Shows plain_operand_type reason on b (refused tt) new) (one_of_both (some_holds on (given_by form gives xs)) (value on elsewhere) (is ∙ ap not (sym (held_alike xs))))
      (judged.shows (some_holds on (given_by form gives xs)) (refused tt) (led (refused tt) (none_carry on (refused tt) (given_by form gives xs) (held_alike xs ∙ none))) (λ t. refl))
  given_or_refused xs elsewhere all new is led judged (Some a) stands =
      subst (λ b. Shows plain_operand_type reason on b (gives a) new) (one_of_both (some_holds on (given_by form gives xs)) (value on elsewhere) (is ∙ ap not (sym (held_alike xs))))
      (judged.shows (some_holds on (given_by form gives xs)) (gives a) (led (gives a) (carry_given a xs stands.carry)) (never_both (some_holds on (entries_of form xs)) (value on elsewhere) is stands.held))
