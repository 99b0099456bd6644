-- What values lead to, where each leads to a judgement that is conditional itself.
use Rattle.std.specs.Prelude.{ℕ, Bool, List, Option, Some, None}
use Rattle.conditional.specs.declared.entries.Guarded.{Guarded}
use Rattle.conditional.specs.Entries.{Entry, entries_of}
use Rattle.conditional.specs.declared.outcomes.Outcomes.{Outcomes}
use Rattle.operand_rules.specs.declared.operands.OperandType.{OperandType}
use Rattle.operand_rules.specs.declared.operands.Refused.{Refused}
use Rattle.cond_operands.specs.Operands.{Judged, ShowsOperand}
use Rattle.expression_types.specs.Reading.{no_outcome}

-- what the code has for a judgement
abbrev pub OperandOutcomes : Type 0
OperandOutcomes = Outcomes OperandType Refused

-- whatever the code may lead to shows what this function gives
pub record LeadsTo {S A : Type 0} (form : S → A) (leads : S → Outcomes OperandType Refused → Type 0) (on : ℕ → Bool) (gives : A → Judged) : Type 0 where
  pub leads_to : (x : S) (z : Outcomes OperandType Refused) → leads x z → ShowsOperand on (gives (form x)) z

-- a refusal where there is no value
abbrev pub if_any : {A : Type 0} → (A → Judged) → Option A → Judged
if_any gives None = no_outcome
if_any gives (Some a) = gives a

-- what is given for the values, under their conditions
abbrev pub given_by : {S A : Type 0} → (S → A) → (A → Judged) → List (Guarded S) → List (Entry Judged)
given_by form gives xs = entries_of (λ x. gives (form x)) xs
