-- Numbers of elements, and what a configuration sees of them.
use Rattle.std.specs.Prelude.{ℕ, Bool, true, Option, Some, None}
use Rattle.conditional.specs.Judgements.{Checked, fine, refused, Shows}
use Rattle.conditional.specs.declared.outcomes.Outcomes.{Outcomes}
use Rattle.operand_rules.specs.declared.operands.Refused.{Refused}
use Rattle.operand_rules.specs.PlainOperandTypes.{reason}
use Rattle.cond_sizes.specs.declared.elements.Count.{Count}

abbrev pub plain_count : Count → ℕ
plain_count count = count.elements

-- a number that there may be
abbrev pub given : Option ℕ → Checked ℕ (Unit {0})
given None = refused tt
given (Some n) = fine n

-- This comes of a count where `on` says which features are on.
abbrev pub ShowsCount : (ℕ → Bool) → Checked ℕ (Unit {0}) → Outcomes Count Refused → Type 0
ShowsCount on counted all = Shows plain_count reason on true counted all
