use Rattle.std.proofs.Common.{◌≡◌, ◌≢◌, ◌<◌, ◌^◌, ℕ, arith}
use Rattle.std.proofs.lemmas.Nat.Bits.{bit_at_and, bit_at-lt, bit_at-trailing_zeros}
use Rattle.std.proofs.lemmas.Nat.{and_le_r}
use Rattle.std.proofs.Math.Nat.{pos_of_ne-zero}
use Rattle.std.specs.Int.{bit_at, trailing_zeros, w128}
use lib.Bits.{bit_and}
use Rattle.cond_formula.proofs.CubeLaws.{some_from_test}
use Rattle.reduced_conditions.specs.Literals.{Shared}
use Rattle.reduced_conditions.proofs.literals.share_bit.Goals as goal

shared : (a b : ℕ) → b < 2 ^ 128 → bit_and a b ≢ 0 → Shared a b
shared a b small some =
    let i = trailing_zeros w128 (bit_and a b) in
    let found = bit_at-trailing_zeros w128 (bit_and a b) (pos_of_ne-zero some) (omega (arith, and_le_r a b)) in
    let one : bit_at (bit_and a b) i ≡ 1 = found.1 in
    record {
      feature = i;
      in_one = omega (arith, bit_at_and a b i, bit_at-lt a i);
      in_other = omega (arith, bit_at_and a b i, bit_at-lt b i);
    }

pub returns : goal.returns
returns c = λ shares. shared c.args.a c.args.b (omega arith) (some_from_test (bit_and c.args.a c.args.b) shares)
