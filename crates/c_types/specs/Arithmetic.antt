-- Arithmetic on two values of one integer type (ISO/IEC 9899:2011, 6.5.5 to 6.5.12).
use Rattle.std.specs.Prelude.{ℕ, zero, ◌^◌, Bool, true, false, not, ◌&&◌, ℤ, pos, ◌+ℤ◌, ◌-ℤ◌, ◌*ℤ◌, if◌then◌else◌, ⊤}
use Rattle.std.specs.Int.{int_shr, is_negative}
use Rattle.std.specs.Int.RustNames.{int_le, int_lt, int_div, int_rem, unsigned_abs, bit_and, bit_or, bit_xor}
use Rattle.c_types.specs.declared.arithmetic.Arith.{Arith}
use Rattle.c_types.specs.declared.arithmetic.Arith.TheVariants.{Value, Undefined}
use Rattle.c_types.specs.declared.arithmetic.BinaryOp.{BinaryOp}
use Rattle.c_types.specs.declared.arithmetic.BinaryOp.TheVariants.{Mul, Div, Rem, Add, Sub, Shl, Shr, Lt, Gt, Le, Ge, Eq, Ne, BitAnd, BitXor, BitOr}
use Rattle.c_types.specs.Types.{PlainType}
use Rattle.c_types.specs.Integers.{width, is_signed, is_in_range, remainder, converted, IsValue}

abbrev pub is_zero : ℤ → Bool
is_zero (pos zero) = true
is_zero other = false

-- the value of an operator whose mathematical result is z: an unsigned one is reduced (6.2.5), a signed one must be in range (6.5)
abbrev pub reduced : PlainType → ℤ → Arith
reduced t z = if is_signed t then (if is_in_range t z then Value z else Undefined) else Value (converted t z)

-- of a quotient or a remainder, where the divisor isn't 0 and the quotient is a value of the type (6.5.5)
abbrev pub divided : PlainType → ℤ → ℤ → ℤ → Arith
divided t a b z = if is_zero b then Undefined else if is_in_range t (int_div a b) then Value z else Undefined

-- a number of bits that a value may be shifted by (6.5.7)
abbrev pub is_shift : PlainType → ℤ → Bool
is_shift t b = int_le (pos 0) b && int_lt b (pos (width t))

abbrev pub shifted_left : PlainType → ℤ → ℤ → Arith
shifted_left t a b =
    if is_shift t b && not (is_negative a) then reduced t (a *ℤ pos (2 ^ unsigned_abs b)) else Undefined

abbrev pub shifted_right : PlainType → ℤ → ℤ → Arith
shifted_right t a b = if is_shift t b then Value (int_shr a (unsigned_abs b)) else Undefined

-- the result of a comparison (6.5.8, 6.5.9)
abbrev pub truth : Bool → Arith
truth holds = Value (if holds then pos 1 else pos 0)

abbrev pub equal : ℤ → ℤ → Bool
equal a b = int_le a b && int_le b a

-- the bits of a value in two's complement, as a number (6.2.6.2)
abbrev pub bits_of : PlainType → ℤ → ℕ
bits_of t z = unsigned_abs (remainder t z)

-- the value whose bits an operator makes of those of two values (6.5.10 to 6.5.12)
abbrev pub bitwise : PlainType → (ℕ → ℕ → ℕ) → ℤ → ℤ → Arith
bitwise t f a b = Value (converted t (pos (f (bits_of t a) (bits_of t b))))

-- the value of an operator, or that it has none
abbrev pub binary_value : BinaryOp → PlainType → ℤ → ℤ → Arith
binary_value Mul t a b = reduced t (a *ℤ b)
binary_value Div t a b = divided t a b (int_div a b)
binary_value Rem t a b = divided t a b (int_rem a b)
binary_value Add t a b = reduced t (a +ℤ b)
binary_value Sub t a b = reduced t (a -ℤ b)
binary_value Shl t a b = shifted_left t a b
binary_value Shr t a b = shifted_right t a b
binary_value Lt t a b = truth (int_lt a b)
binary_value Gt t a b = truth (int_lt b a)
binary_value Le t a b = truth (int_le a b)
binary_value Ge t a b = truth (int_le b a)
binary_value Eq t a b = truth (equal a b)
binary_value Ne t a b = truth (not (equal a b))
binary_value BitAnd t a b = bitwise t bit_and a b
binary_value BitXor t a b = bitwise t bit_xor a b
binary_value BitOr t a b = bitwise t bit_or a b

-- what is asked of a right operand: that it is a value of the type, and nothing for shifts, whose operands may differ in type
abbrev pub IsRightOperand : BinaryOp → PlainType → ℤ → Type 0
IsRightOperand Shl t b = ⊤
IsRightOperand Shr t b = ⊤
IsRightOperand op t b = IsValue t b
