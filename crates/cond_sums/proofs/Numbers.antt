-- Numbers up to the limit: those beyond it are alike.
use Rattle.std.proofs.Common.{arith, ◌≡◌, ℕ, ◌+◌, ◌*◌, ◌≤◌, Bool, true, false}
use Rattle.std.proofs.Math.Nat.{mul-add}
use Rattle.core_meaning.specs.Constancy.{capped}
use Rattle.cond_sums.specs.Sums.{counted}

-- one part more of a product
pub product_step : (k n rest so_far new all : ℕ) (b : Bool) → capped (so_far + k * (counted b n + rest)) ≡ all → capped new ≡ capped (so_far + counted b (capped (k * n))) → capped (new + k * rest) ≡ all
product_step k n rest so_far new all true before added =
    let d : k * (n + rest) ≡ k * n + k * rest = mul-add k n rest in
    omega (arith, d, before, added)
product_step k n rest so_far new all false before added = omega (arith, before, added)

pub counted_at_most : (b : Bool) (n : ℕ) → counted b n ≤ n
counted_at_most true n = omega arith
counted_at_most false n = omega arith
