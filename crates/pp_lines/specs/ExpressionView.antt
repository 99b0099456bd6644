-- What the reader of expressions holds, in the definitions' terms.
use Rattle.std.specs.Prelude.{ℕ, ℤ, nat_le, List, [], ◌∷◌, map, reverse, if◌then◌else◌, Option, Some, None, option_map, option_and_then, Vec}
use Rattle.std.specs.declared.alloc.Global.{Global}
use Rattle.c_text.specs.Expressions as spec
use Rattle.c_text.specs.declared.token.TokenKind.{TokenKind}
use Rattle.pp_lines.specs.ExpressionReading as reading
use Rattle.pp_lines.specs.declared.expressions.Value.{Value}
use Rattle.pp_lines.specs.declared.expressions.Value.TheVariants as answers
use Rattle.pp_lines.specs.declared.expressions.operators.Unary.{Unary}
use Rattle.pp_lines.specs.declared.expressions.operators.Unary.TheVariants as unaries
use Rattle.pp_lines.specs.declared.expressions.operators.Binary.{Binary}
use Rattle.pp_lines.specs.declared.expressions.operators.Binary.TheVariants as binaries
use Rattle.pp_lines.specs.declared.expressions.outcomes.Outcome.{Outcome}
use Rattle.pp_lines.specs.declared.expressions.signs.Sign.{Sign}
use Rattle.pp_lines.specs.declared.expressions.signs.Sign.TheVariants as signs
use Rattle.pp_lines.specs.declared.expressions.reader.Pending.{Pending}
use Rattle.pp_lines.specs.declared.expressions.reader.Pending.TheVariants as pendings
use Rattle.pp_lines.specs.declared.expressions.reader.ExpressionReader.{ExpressionReader}

abbrev pub unary_view : Unary → spec.Unary
unary_view unaries.Plus = spec.unary_plus
unary_view unaries.Minus = spec.unary_minus
unary_view unaries.Negation = spec.negation
unary_view unaries.Complement = spec.complement

abbrev pub binary_view : Binary → spec.Binary
binary_view binaries.Times = spec.times
binary_view binaries.Over = spec.over
binary_view binaries.Remainder = spec.remainder
binary_view binaries.Plus = spec.plus
binary_view binaries.Minus = spec.minus
binary_view binaries.LeftShift = spec.left_shift
binary_view binaries.RightShift = spec.right_shift
binary_view binaries.Less = spec.less
binary_view binaries.Greater = spec.greater
binary_view binaries.AtMost = spec.at_most
binary_view binaries.AtLeast = spec.at_least
binary_view binaries.Equal = spec.equal
binary_view binaries.Unequal = spec.unequal
binary_view binaries.BitsAnd = spec.bits_and
binary_view binaries.BitsXor = spec.bits_xor
binary_view binaries.BitsOr = spec.bits_or
binary_view binaries.Both = spec.both
binary_view binaries.Either = spec.either

abbrev pub sign_view : Sign → reading.Sign
sign_view (signs.Connects op) = reading.connects (binary_view op)
sign_view signs.Asks = reading.asks
sign_view signs.Parts = reading.parts
sign_view signs.Closes = reading.closes
sign_view signs.Ends = reading.ends

abbrev pub outcome_view : Outcome → reading.Outcome
outcome_view o = record { height = o.height; value = o.value }

abbrev pub pending_view : Pending → reading.Pending reading.Outcome
pending_view pendings.Opened = reading.opened
pending_view (pendings.Prefixed op) = reading.prefixed (unary_view op)
pending_view (pendings.Joined a op) = reading.joined (outcome_view a) (binary_view op)
pending_view (pendings.Asked a) = reading.asked (outcome_view a)
pending_view (pendings.Parted a b) = reading.parted (outcome_view a) (outcome_view b)

abbrev pub waits_view : Vec Pending Global → List (reading.Pending reading.Outcome)
waits_view waits = reverse (map pending_view waits.items)

abbrev pub reader_view : ExpressionReader → reading.Place reading.Outcome
reader_view r = record { last = option_map outcome_view r.last; waits = waits_view r.waits }

-- the value of a token as an operand, if it may stand as one
abbrev pub operand_if : TokenKind → List ℕ → Option ℤ
operand_if kind text = if reading.is_operand kind text then Some (spec.operand_value kind text) else None

-- behind a value that stands as an operand, if there is one
abbrev pub with_value : Option ℤ → List (reading.Pending reading.Outcome) → Option (reading.Place reading.Outcome)
with_value None ps = None
with_value (Some z) ps = Some (record { last = Some (record { height = 1; value = Some z }); waits = ps })

-- what begins to wait at a token
abbrev pub opening : reading.Front → Option (reading.Pending reading.Outcome)
opening reading.opens = Some reading.opened
opening (reading.prefixes op) = Some (reading.prefixed op)
opening other = None

-- the innermost that waits, if it holds its operand this tightly
abbrev pub taker : ℕ → List (reading.Pending reading.Outcome) → Option (reading.Pending reading.Outcome)
taker level [] = None
taker level (p ∷ ps) = if nat_le level (reading.pending_level p) then Some p else None

-- a value, or a refusal
abbrev pub told : Option ℤ → Value
told (Some z) = answers.Number z
told None = answers.Refused

-- what the reader makes of words from a place on, if any expression goes on like this
abbrev pub read_on : Option (reading.Place reading.Outcome) → List spec.Word → Value
read_on place words = told (reading.answer (option_and_then (λ p. reading.read reading.outcomes p words) place))
