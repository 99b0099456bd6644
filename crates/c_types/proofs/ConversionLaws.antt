-- A number's conversion to an integer type is the one value of the type that differs from it by a multiple of the modulus.
use Rattle.std.proofs.Common.{◌≡◌, ℕ, ◌/◌, ◌^◌, ◌<◌, ℤ, pos, negsuc, ◌+ℤ◌, ◌-ℤ◌, ◌*ℤ◌, ◌≤ℤ◌, ◌<ℤ◌, IsTrue, Bool, true, false, if◌then◌else◌, refl, ap, arith, lit<}
use Rattle.std.proofs.lemmas.Int.{ints}
use Rattle.std.specs.Int.{int_rem_euclid}
use Rattle.std.specs.Int.RustNames.{int_le}
use Rattle.c_types.specs.Types.{PlainType, char, unsigned_char, int, unsigned_int, long, unsigned_long}
use Rattle.c_types.specs.Integers.{width, is_integer, largest, modulus, IsValue, remainder, converted, IsConversion, OneConversion}

-- the remainder of a division by n that rounds down
pub record IsRemainder (n : ℕ) (z r : ℤ) : Type 0 where
  pub quotient : ℤ
  pub differs : z ≡ r +ℤ quotient *ℤ pos n
  pub low : pos 0 ≤ℤ r
  pub high : r <ℤ pos n

pub int_rem_euclid_is_remainder : (n : ℕ) (z : ℤ) → 0 < n → IsRemainder n z (int_rem_euclid z (pos n))
int_rem_euclid_is_remainder n (pos a) h =
    record { quotient = pos (a / n); differs = ap pos (omega arith); low = omega (arith, ints); high = omega (arith, ints) }
int_rem_euclid_is_remainder n (negsuc a) h =
    record { quotient = negsuc (a / n); differs = omega (arith, ints); low = omega (arith, ints); high = omega (arith, ints) }

-- a remainder that is a value of the type
low_is : (t : PlainType) (z r : ℤ) → IsTrue (is_integer t) → IsRemainder (2 ^ width t) z r → r ≤ℤ largest t → IsConversion t z r
low_is char z r i h e = record { is_value = record { integer = refl; at_least = omega (arith, ints); at_most = e }; multiple = h.quotient; differs = h.differs }
low_is unsigned_char z r i h e = record { is_value = record { integer = refl; at_least = h.low; at_most = e }; multiple = h.quotient; differs = h.differs }
low_is int z r i h e = record { is_value = record { integer = refl; at_least = omega (arith, ints); at_most = e }; multiple = h.quotient; differs = h.differs }
low_is unsigned_int z r i h e = record { is_value = record { integer = refl; at_least = h.low; at_most = e }; multiple = h.quotient; differs = h.differs }
low_is long z r i h e = record { is_value = record { integer = refl; at_least = omega (arith, ints); at_most = e }; multiple = h.quotient; differs = h.differs }
low_is unsigned_long z r i h e = record { is_value = record { integer = refl; at_least = h.low; at_most = e }; multiple = h.quotient; differs = h.differs }
low_is other z r i h e = absurd cc

-- a remainder above the values of the type
high_is : (t : PlainType) (z r : ℤ) → IsTrue (is_integer t) → IsRemainder (2 ^ width t) z r → largest t <ℤ r → IsConversion t z (r -ℤ modulus t)
high_is char z r i h e = record { is_value = record { integer = refl; at_least = omega (arith, ints); at_most = omega (arith, ints) }; multiple = h.quotient +ℤ pos 1; differs = omega (arith, ints) }
high_is unsigned_char z r i h e = absurd (omega (arith, ints))
high_is int z r i h e = record { is_value = record { integer = refl; at_least = omega (arith, ints); at_most = omega (arith, ints) }; multiple = h.quotient +ℤ pos 1; differs = omega (arith, ints) }
high_is unsigned_int z r i h e = absurd (omega (arith, ints))
high_is long z r i h e = record { is_value = record { integer = refl; at_least = omega (arith, ints); at_most = omega (arith, ints) }; multiple = h.quotient +ℤ pos 1; differs = omega (arith, ints) }
high_is unsigned_long z r i h e = absurd (omega (arith, ints))
high_is other z r i h e = absurd cc

chosen : (t : PlainType) (z r : ℤ) (b : Bool) → int_le r (largest t) ≡ b → IsTrue (is_integer t) → IsRemainder (2 ^ width t) z r → IsConversion t z (if b then r else r -ℤ modulus t)
chosen t z r true e i h = low_is t z r i h (grind (arith, ints))
chosen t z r false e i h = high_is t z r i h (grind (arith, ints))

modulus_is_positive : (t : PlainType) → IsTrue (is_integer t) → 0 < 2 ^ width t
modulus_is_positive char i = lit< tt
modulus_is_positive unsigned_char i = lit< tt
modulus_is_positive int i = lit< tt
modulus_is_positive unsigned_int i = lit< tt
modulus_is_positive long i = lit< tt
modulus_is_positive unsigned_long i = lit< tt
modulus_is_positive other i = absurd cc

pub is_conversion : (t : PlainType) (z : ℤ) → IsTrue (is_integer t) → IsConversion t z (converted t z)
is_conversion t z i =
    chosen t z (remainder t z) _ refl i (int_rem_euclid_is_remainder (2 ^ width t) z (modulus_is_positive t i))

pub same_conversion : (t : PlainType) (z x y : ℤ) → IsTrue (is_integer t) → IsConversion t z x → IsConversion t z y → x ≡ y
same_conversion char z x y i p q = omega (arith, ints)
same_conversion unsigned_char z x y i p q = omega (arith, ints)
same_conversion int z x y i p q = omega (arith, ints)
same_conversion unsigned_int z x y i p q = omega (arith, ints)
same_conversion long z x y i p q = omega (arith, ints)
same_conversion unsigned_long z x y i p q = omega (arith, ints)
same_conversion other z x y i p q = absurd cc

pub one_conversion : (t : PlainType) (z : ℤ) → IsTrue (is_integer t) → OneConversion t z
one_conversion t z i = record { given = is_conversion t z i; alone = λ other h. same_conversion t z other (converted t z) i h (is_conversion t z i) }

value_is_its_conversion : (t : PlainType) (z : ℤ) → IsValue t z → IsConversion t z z
value_is_its_conversion t z h = record { is_value = h; multiple = pos 0; differs = omega (arith, ints) }

pub converted-value : (t : PlainType) (z : ℤ) → IsValue t z → converted t z ≡ z
converted-value t z h = same_conversion t z (converted t z) z h.integer (is_conversion t z h.integer) (value_is_its_conversion t z h)
