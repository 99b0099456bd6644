-- Judgements of operands in each configuration.
use Rattle.std.specs.Prelude.{ℕ, Bool, true}
use Rattle.conditional.specs.Judgements.{Checked, fine, refused, Shows}
use Rattle.conditional.specs.declared.outcomes.Outcomes.{Outcomes}
use Rattle.operand_types.specs.OperandTypes as spec
use Rattle.operand_rules.specs.declared.operands.OperandType.{OperandType}
use Rattle.operand_rules.specs.declared.operands.Refused.{Refused}
use Rattle.operand_rules.specs.PlainOperandTypes.{plain_operand_type, reason}
use Rattle.operand_rules.specs.Rules.{IsNumberIfNull}
use Rattle.cond_operands.specs.declared.judgements.Passed.{Passed}

abbrev pub passed : Passed → Unit {0}
passed x = tt

-- what is judged of an operand
abbrev pub Judged : Type 0
Judged = Checked spec.OperandType (Unit {0})

-- This is judged of the operand where `on` says which features are on.
abbrev pub ShowsOperand : (ℕ → Bool) → Judged → Outcomes OperandType Refused → Type 0
ShowsOperand on x all = Shows plain_operand_type reason on true x all

-- This is what a test gives there.
abbrev pub ShowsTest : (ℕ → Bool) → Checked (Unit {0}) (Unit {0}) → Outcomes Passed Refused → Type 0
ShowsTest on x all = Shows passed reason on true x all

-- if there is an operand, then what is the null constant is a number
abbrev pub HasNumberIfNull : Judged → Type 0
HasNumberIfNull (fine o) = IsNumberIfNull o
HasNumberIfNull (refused why) = Unit {0}
