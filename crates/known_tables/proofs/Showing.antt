-- What operands show that are put together of alternatives and refusals.
use Rattle.std.proofs.Common.{◌≡◌, ℕ, Bool, true, false, not, ◌||◌, List, [], ◌∷◌, Option, None, Some, refl, sym, ap, ◌∙◌}
use Rattle.cond_formula.specs.Conditions.{Condition, value}
use Rattle.conditional.specs.declared.outcomes.Outcomes.{Outcomes}
use Rattle.conditional.specs.Entries.{Entry, alternatives, listed, seen, first, some_holds, under, Sees, Stands, Places}
use Rattle.conditional.specs.Judgements.{fine}
use Rattle.conditional.proofs.ValueLaws.{none_carry}
use Rattle.operand_types.specs.OperandTypes.{OperandType}
use Rattle.operand_rules.specs.declared.operands.OperandType as code
use Rattle.operand_rules.specs.declared.operands.Refused.{Refused}
use Rattle.operand_rules.specs.PlainOperandTypes.{plain_operand_type, reason}
use Rattle.cond_operands.specs.Operands.{ShowsOperand}
use Rattle.expression_types.specs.Reading.{no_outcome}
use Rattle.known_tables.specs.Lookups.{outcome_of}

none_first : {A : Type 0} (xs : List A) → first xs ≡ None → xs ≡ []
none_first [] is = refl
none_first (x ∷ xs) is = absurd cc

module _ (on : ℕ → Bool) (all : Outcomes code.OperandType Refused) where
  pub refusal_shown : first (seen on (listed reason all.refused)) ≡ Some tt → ShowsOperand on no_outcome all
  refusal_shown is = record { shown = record { only = λ other h. refl; held = λ t. is } }

  pub value_shown : (o : OperandType) → first (seen on (listed reason all.refused)) ≡ None → Sees on (Some o) (alternatives plain_operand_type all.fine) → ShowsOperand on (fine o) all
  value_shown o is sees = record { shown = record { not_refused = none_first (seen on (listed reason all.refused)) is; held = λ t. sees.held; carry = sees.carry } }

  -- a refusal where no alternative holds
  pub or_refusal_shown : (some : Bool) → some ≡ some_holds on (alternatives plain_operand_type all.fine) → seen on (listed reason all.refused) ≡ under (not some) (tt ∷ [])
      → (o : Option OperandType) → Sees on o (alternatives plain_operand_type all.fine) → ShowsOperand on (outcome_of o) all
  or_refusal_shown some some_is is None none = refusal_shown (ap first is ∙ ap (λ (b : Bool). first (under (not b) (tt ∷ []))) (some_is ∙ none))
  or_refusal_shown some some_is is (Some o) stands = value_shown o (ap first is ∙ ap (λ (b : Bool). first (under (not b) (tt ∷ []))) (some_is ∙ stands.held)) stands

-- ---- one of two alternatives

one_or_other : (b : Bool) → ((false || b) || not b) ≡ true
one_or_other true = refl
one_or_other false = refl

not_false : (b : Bool) → not b ≡ true → b ≡ false
not_false true is = cc
not_false false is = refl

pub one_of_two :
    {P : Type 0} (on : ℕ → Bool) (b : Bool) (chosen otherwise : Condition) (gives : Bool → P) (empty mid new : List (Entry P)) → some_holds on empty ≡ false
    → value on chosen ≡ b → value on otherwise ≡ not b → Places on chosen (gives true) empty mid → Places on otherwise (gives false) mid new → Stands on (gives b) new
one_of_two on b chosen otherwise gives empty mid new none is is_other first_placed then_placed = record {
  held =
      then_placed.held ∙ ap (λ (h : Bool). h || value on otherwise) (first_placed.held ∙ ap (λ (h : Bool). h || value on chosen) none)
      ∙ ap (λ (h : Bool). (false || h) || value on otherwise) is ∙ ap (λ (h : Bool). (false || b) || h) is_other ∙ one_or_other b;
  carry =
      then_placed.carry (gives b) (first_placed.carry (gives b) (none_carry on (gives b) empty none) (λ t. ap gives (sym t ∙ is)))
      (λ t. ap gives (sym (not_false b (sym is_other ∙ t))));
}
