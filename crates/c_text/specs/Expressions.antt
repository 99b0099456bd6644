-- The expressions of `#if` and `#elif` (ISO/IEC 9899:2011, 6.10.1, 6.5), once macros are replaced: how each is spelled, and its
-- value, a signed number of 64 bits.
use Rattle.std.specs.Prelude.{◌≡◌, ℕ, zero, suc, ◌-◌, ◌<◌, ◌≤◌, ◌^◌, max, Bool, true, false, not, ◌&&◌, nat_le, nat_lt, ℤ, pos, negsuc, ◌*ℤ◌, ◌+ℤ◌, ◌-ℤ◌, neg_ℤ, List, [], ◌∷◌, ◌++◌, map, codes, if◌then◌else◌, Option, Some, None, ⊤}
use Rattle.std.specs.Str.{bytes_eq}
use Rattle.std.specs.Int.{w64, int_bit_and, int_bit_or, int_bit_xor, int_bit_not, int_shr}
use Rattle.std.specs.Int.RustNames.{int_lt, int_le, int_div, int_rem}
use Rattle.c_text.specs.declared.token.TokenKind.{TokenKind}
use Rattle.c_text.specs.declared.token.TokenKind.TheVariants.{Name, Keyword, Number, Character, Punctuator}
use Rattle.c_text.specs.Token.{PlainToken}
use Rattle.c_text.specs.Constants.{is_unsigned, number_value, quoted_values}

pub data Unary : Type 0 where
  unary_plus : Unary
  unary_minus : Unary
  negation : Unary
  complement : Unary

pub data Binary : Type 0 where
  times : Binary
  over : Binary
  remainder : Binary
  plus : Binary
  minus : Binary
  left_shift : Binary
  right_shift : Binary
  less : Binary
  greater : Binary
  at_most : Binary
  at_least : Binary
  equal : Binary
  unequal : Binary
  bits_and : Binary
  bits_xor : Binary
  bits_or : Binary
  both : Binary
  either : Binary

-- a token without its place
pub record Word : Type 0 where
  pub kind : TokenKind
  pub text : List ℕ

pub data Expression : Type 0 where
  -- a number, a character, or an identifier that is left, which is 0
  operand : Word → Expression
  parenthesized : Expression → Expression
  unary : Unary → Expression → Expression
  binary : Binary → Expression → Expression → Expression
  conditional : Expression → Expression → Expression → Expression

abbrev pub word_of : PlainToken → Word
word_of token = record { kind = token.kind; text = token.text }

abbrev pub mark : List ℕ → Word
mark text = record { kind = Punctuator; text = text }

abbrev pub unary_text : Unary → List ℕ
unary_text unary_plus = codes "+"
unary_text unary_minus = codes "-"
unary_text negation = codes "!"
unary_text complement = codes "~"

abbrev pub binary_text : Binary → List ℕ
binary_text times = codes "*"
binary_text over = codes "/"
binary_text remainder = codes "%"
binary_text plus = codes "+"
binary_text minus = codes "-"
binary_text left_shift = codes "<<"
binary_text right_shift = codes ">>"
binary_text less = codes "<"
binary_text greater = codes ">"
binary_text at_most = codes "<="
binary_text at_least = codes ">="
binary_text equal = codes "=="
binary_text unequal = codes "!="
binary_text bits_and = codes "&"
binary_text bits_xor = codes "^"
binary_text bits_or = codes "|"
binary_text both = codes "&&"
binary_text either = codes "||"

abbrev pub spelled : Expression → List Word
spelled (operand word) = word ∷ []
spelled (parenthesized inner) = mark (codes "(") ∷ spelled inner ++ mark (codes ")") ∷ []
spelled (unary op inner) = mark (unary_text op) ∷ spelled inner
spelled (binary op left right) = spelled left ++ mark (binary_text op) ∷ spelled right
spelled (conditional test then_ else_) =
    spelled test ++ mark (codes "?") ∷ spelled then_ ++ mark (codes ":") ∷ spelled else_

-- how tightly a connective holds its operands
abbrev pub binary_level : Binary → ℕ
binary_level times = 11
binary_level over = 11
binary_level remainder = 11
binary_level plus = 10
binary_level minus = 10
binary_level left_shift = 9
binary_level right_shift = 9
binary_level less = 8
binary_level greater = 8
binary_level at_most = 8
binary_level at_least = 8
binary_level equal = 7
binary_level unequal = 7
binary_level bits_and = 6
binary_level bits_xor = 5
binary_level bits_or = 4
binary_level both = 3
binary_level either = 2

abbrev pub level : Expression → ℕ
level (operand word) = 13
level (parenthesized inner) = 13
level (unary op inner) = 12
level (binary op left right) = binary_level op
level (conditional test then_ else_) = 1

-- a number that may stand here: without `u`, and not above the largest one of 64 bits
abbrev pub IsOperand : TokenKind → List ℕ → Type 0
IsOperand Number text = (is_unsigned text ≡ false) × (number_value text < 2 ^ 63)
IsOperand Character text = ⊤
IsOperand Name text = bytes_eq text (codes "defined") ≡ false
IsOperand Keyword text = ⊤
IsOperand other text = ⊥

-- Connectives of one level group from the left, `?` from the right.
abbrev pub Fits : Expression → Type 0
Fits (operand word) = IsOperand word.kind word.text
Fits (parenthesized inner) = Fits inner
Fits (unary op inner) = Fits inner × (12 ≤ level inner)
Fits (binary op left right) =
    Fits left × Fits right × (binary_level op ≤ level left) × (binary_level op < level right)
Fits (conditional test then_ else_) = Fits test × Fits then_ × Fits else_ × (2 ≤ level test)

abbrev pub height : Expression → ℕ
height (operand word) = 1
height (parenthesized inner) = suc (height inner)
height (unary op inner) = suc (height inner)
height (binary op left right) = suc (max (height left) (height right))
height (conditional test then_ else_) = suc (max (height test) (max (height then_) (height else_)))

-- a value of 64 bits, or none
abbrev pub within : ℤ → Option ℤ
within z = if int_le (negsuc (2 ^ 63 - 1)) z && int_lt z (pos (2 ^ 63)) then Some z else None

abbrev pub is_zero : ℤ → Bool
is_zero (pos zero) = true
is_zero other = false

abbrev pub truth : Bool → Option ℤ
truth true = Some (pos 1)
truth false = Some (pos 0)

abbrev pub unary_value : Unary → ℤ → Option ℤ
unary_value unary_plus z = Some z
unary_value unary_minus z = within (neg_ℤ z)
unary_value negation z = truth (is_zero z)
unary_value complement z = Some (int_bit_not w64 z)

-- by the bits that the right operand shifts by, from 0 to 63
abbrev pub shifted : (ℕ → Option ℤ) → ℤ → Option ℤ
shifted by (pos count) = if nat_lt count 64 then by count else None
shifted by (negsuc n) = None

abbrev pub shifted_left : ℤ → ℕ → Option ℤ
shifted_left (pos n) count = within (pos n *ℤ pos (2 ^ count))
shifted_left (negsuc n) count = None

abbrev pub after_quotient : ℤ → Option ℤ → Option ℤ
after_quotient z None = None
after_quotient z (Some quotient) = Some z

-- of two operands that are both evaluated; an overflow, a zero divisor and a wrong shift have no value
abbrev pub binary_value : Binary → ℤ → ℤ → Option ℤ
binary_value times a b = within (a *ℤ b)
binary_value over a b = if is_zero b then None else within (int_div a b)
binary_value remainder a b = if is_zero b then None else after_quotient (int_rem a b) (within (int_div a b))
binary_value plus a b = within (a +ℤ b)
binary_value minus a b = within (a -ℤ b)
binary_value left_shift a b = shifted (shifted_left a) b
binary_value right_shift a b = shifted (λ count. Some (int_shr a count)) b
binary_value less a b = truth (int_lt a b)
binary_value greater a b = truth (int_lt b a)
binary_value at_most a b = truth (int_le a b)
binary_value at_least a b = truth (int_le b a)
binary_value equal a b = truth (int_le a b && int_le b a)
binary_value unequal a b = truth (not (int_le a b && int_le b a))
binary_value bits_and a b = Some (int_bit_and w64 a b)
binary_value bits_xor a b = Some (int_bit_xor w64 a b)
binary_value bits_or a b = Some (int_bit_or w64 a b)
binary_value both a b = truth (not (is_zero a) && not (is_zero b))
binary_value either a b = truth (not (is_zero a && is_zero b))

-- a character is the value of its byte as a signed one
abbrev pub signed_byte : ℕ → ℤ
signed_byte b = if nat_le 128 b then negsuc (255 - b) else pos b

abbrev pub character_value : Option (List ℕ) → ℤ
character_value (Some (b ∷ [])) = signed_byte b
character_value other = pos 0

abbrev pub operand_value : TokenKind → List ℕ → ℤ
operand_value Number text = pos (number_value text)
operand_value Character text = character_value (quoted_values text)
operand_value other text = pos 0

abbrev pub of_one : (ℤ → Option ℤ) → Option ℤ → Option ℤ
of_one f None = None
of_one f (Some z) = f z

abbrev pub of_two : (ℤ → ℤ → Option ℤ) → Option ℤ → Option ℤ → Option ℤ
of_two f None b = None
of_two f (Some a) b = of_one (f a) b

-- an operand that is skipped isn't evaluated
abbrev pub connected : Binary → Option ℤ → Option ℤ → Option ℤ
connected both (Some a) b = if is_zero a then Some (pos 0) else of_one (binary_value both a) b
connected either (Some a) b = if is_zero a then of_one (binary_value either a) b else Some (pos 1)
connected op a b = of_two (binary_value op) a b

abbrev pub chosen : Option ℤ → Option ℤ → Option ℤ → Option ℤ
chosen None b c = None
chosen (Some a) b c = if is_zero a then c else b

abbrev pub value : Expression → Option ℤ
value (operand word) = Some (operand_value word.kind word.text)
value (parenthesized inner) = value inner
value (unary op inner) = of_one (unary_value op) (value inner)
value (binary op left right) = connected op (value left) (value right)
value (conditional test then_ else_) = chosen (value test) (value then_) (value else_)

-- the most that an expression may be high
abbrev pub highest : ℕ
highest = 128

-- The tokens are an expression with this value.
pub record HasValue (tokens : List PlainToken) (z : ℤ) : Type 0 where
  pub expression : Expression
  pub fits : Fits expression
  pub spells : map word_of tokens ≡ spelled expression
  pub low : height expression ≤ highest
  pub value_is : value expression ≡ Some z
