-- What follows a rule follows the definition that comes to it.
use Rattle.std.proofs.Common.{◌≡◌, sym, ◌∙◌}
use Rattle.std.specs.Prelude.{Result, Ok, Err, IfOk}
use Rattle.c_text.specs.Token.{PlainToken}
use Rattle.conditional.specs.Judgements.{Checked}
use Rattle.operand_types.specs.OperandTypes as spec
use Rattle.operand_rules.specs.declared.operands.OperandType.{OperandType}
use Rattle.operand_rules.specs.declared.operands.Refused.{Refused}
use Rattle.operand_rules.specs.PlainOperandTypes.{judgement}

abbrev Outcome : Type 0
Outcome = Checked spec.OperandType (Unit {0})

pub answers : {E : Type 0} (r : Result (Result OperandType Refused) E) (x y : Outcome) → y ≡ x → IfOk r (λ j. judgement j ≡ x) → IfOk r (λ j. judgement j ≡ y)
answers (Ok j) x y same h = h ∙ sym same
answers (Err e) x y same h = h

-- the same whatever the token
pub answers_at : {E : Type 0} (r : Result (Result OperandType Refused) E) (x : Outcome) (y : PlainToken → Outcome) → ((at : PlainToken) → y at ≡ x) → IfOk r (λ j. judgement j ≡ x) → IfOk r (λ j. (at : PlainToken) → judgement j ≡ y at)
answers_at (Ok j) x y same h = λ at. h ∙ sym (same at)
answers_at (Err e) x y same h = h

-- the same under a premise
pub answers_if : {E : Type 0} (A : Type 0) (r : Result (Result OperandType Refused) E) (x : Outcome) (y : PlainToken → Outcome) → (A → (at : PlainToken) → y at ≡ x) → IfOk r (λ j. judgement j ≡ x) → IfOk r (λ j. A → (at : PlainToken) → judgement j ≡ y at)
answers_if A (Ok j) x y same h = λ a at. h ∙ sym (same a at)
answers_if A (Err e) x y same h = h
