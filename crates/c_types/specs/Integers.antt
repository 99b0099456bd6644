-- The integer types: their values (ISO/IEC 9899:2011, 6.2.5, 6.2.6.2) and conversions to them (6.3.1.3).
use Rattle.std.specs.Prelude.{◌≡◌, ℕ, ◌-◌, ◌^◌, Bool, true, false, ◌&&◌, ℤ, pos, neg_ℤ, ◌+ℤ◌, ◌-ℤ◌, ◌*ℤ◌, ◌≤ℤ◌, if◌then◌else◌, IsTrue}
use Rattle.std.specs.Int.{int_rem_euclid}
use Rattle.std.specs.Int.RustNames.{int_le}
use Rattle.c_types.specs.Types.{PlainType, char, unsigned_char, int, unsigned_int, long, unsigned_long}

-- how many bits the values of an integer type have
abbrev pub width : PlainType → ℕ
width char = 8
width unsigned_char = 8
width int = 32
width unsigned_int = 32
width long = 64
width unsigned_long = 64
width other = 0

abbrev pub is_integer : PlainType → Bool
is_integer char = true
is_integer unsigned_char = true
is_integer int = true
is_integer unsigned_int = true
is_integer long = true
is_integer unsigned_long = true
is_integer other = false

abbrev pub is_signed : PlainType → Bool
is_signed char = true
is_signed int = true
is_signed long = true
is_signed other = false

abbrev pub least : PlainType → ℤ
least t = if is_signed t then neg_ℤ (pos (2 ^ (width t - 1))) else pos 0

abbrev pub largest : PlainType → ℤ
largest t = if is_signed t then pos (2 ^ (width t - 1) - 1) else pos (2 ^ width t - 1)

-- how many values the type has
abbrev pub modulus : PlainType → ℤ
modulus t = pos (2 ^ width t)

-- z is a value of the integer type
pub record IsValue (t : PlainType) (z : ℤ) : Type 0 where
  pub integer : IsTrue (is_integer t)
  pub at_least : least t ≤ℤ z
  pub at_most : z ≤ℤ largest t

abbrev pub is_in_range : PlainType → ℤ → Bool
is_in_range t z = int_le (least t) z && int_le z (largest t)

-- the number from 0 on, below the modulus, that differs from z by a multiple of the modulus
abbrev pub remainder : PlainType → ℤ → ℤ
remainder t z = int_rem_euclid z (modulus t)

-- what z is converted to: a value above the largest one of a signed type stands for one below 0
abbrev pub converted : PlainType → ℤ → ℤ
converted t z =
    if int_le (remainder t z) (largest t) then remainder t z else remainder t z -ℤ modulus t

-- result is the value of the type that differs from z by a multiple of the modulus
pub record IsConversion (t : PlainType) (z result : ℤ) : Type 0 where
  pub is_value : IsValue t result
  pub multiple : ℤ
  pub differs : z ≡ result +ℤ multiple *ℤ modulus t

-- A number has one conversion, the one that is given.
pub record OneConversion (t : PlainType) (z : ℤ) : Type 0 where
  pub given : IsConversion t z (converted t z)
  pub alone : (other : ℤ) → IsConversion t z other → other ≡ converted t z
