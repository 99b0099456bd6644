-- Laws, not part of the meaning:
-- What is true of a number and the truth values of its bits.
use Rattle.std.proofs.Common.{◌≡◌, ℕ, suc, zero, ◌+◌, ◌*◌, ◌/◌, ◌%◌, ◌^◌, ◌<◌, ◌≤◌, Bool, false, List, cond, eqb, get_or, length, refl, sym, ap, ◌∙◌, arith}
use Rattle.std.proofs.lemmas.Bool.Decides.{nat_tests}
use Rattle.std.proofs.lemmas.Nat.Bits.{shr_and_one, bit_at-suc, bit_at_lowest}
use Rattle.std.proofs.Math.Nat.{pow-succ'}
use Rattle.std.specs.Int.{bit_at}
use lib.Bits.{bit_and}
use Rattle.cond_formula.specs.Features.{has, bits_of, number_of}

half_below : (count n : ℕ) → n < 2 ^ suc count → n / 2 < 2 ^ count
half_below count n h = omega (arith, pow-succ' 2 count)

from_lowest : (n : ℕ) → cond (eqb (n % 2) 1) 1 0 + 2 * (n / 2) ≡ n
from_lowest n = grind (arith, nat_tests)

pub number_of-bits_of : (count n : ℕ) → n < 2 ^ count → number_of (bits_of count n) ≡ n
unfolding bits_of number_of
number_of-bits_of zero n h = grind arith
number_of-bits_of (suc count) n h =
    rw (number_of-bits_of count (n / 2) (half_below count n h)) (from_lowest n)

pub length-bits_of : (count n : ℕ) → length (bits_of count n) ≡ count
unfolding bits_of
length-bits_of zero n = refl
length-bits_of (suc count) n = ap suc (length-bits_of count (n / 2))

pub get_or-bits_of : (count n i : ℕ) → i < count → get_or (bits_of count n) i false ≡ eqb (bit_at n i) 1
unfolding bits_of
get_or-bits_of zero n i h = absurd (omega arith)
get_or-bits_of (suc count) n zero h = ap (λ (x : ℕ). eqb x 1) (sym (bit_at_lowest n))
get_or-bits_of (suc count) n (suc i) h =
    get_or-bits_of count (n / 2) i (omega arith) ∙ ap (λ (x : ℕ). eqb x 1) (sym (bit_at-suc n i))

-- the test of one bit
pub has-bits_of : (n i : ℕ) → i < 128 → has (bits_of 128 n) i ≡ eqb (bit_and (n / 2 ^ i) 1) 1
unfolding has
has-bits_of n i h =
    rw (shr_and_one n i) (rw (get_or-bits_of 128 n i h) (grind (arith, nat_tests)))

-- bit by bit
pub has_bit-below : (n feature : ℕ) → feature < 128 → has (bits_of 128 n) feature ≡ eqb (bit_at n feature) 1
unfolding has
has_bit-below n feature within = rw (get_or-bits_of 128 n feature within) (grind (arith, nat_tests))

-- a configuration has no feature with a larger number
pub has-past : (on : List Bool) (feature : ℕ) → 128 ≤ feature → has on feature ≡ false
unfolding has
has-past on feature past = grind (arith, nat_tests)
