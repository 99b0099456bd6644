-- Numbers of scalars that are replaced where a condition is true.
use Rattle.std.proofs.Common.{arith, ◌≡◌, ℕ, ◌+◌, Bool, true, false, not, ap, ◌∙◌}
use Rattle.std.specs.Prelude.{if◌then◌else◌}
use Rattle.core_meaning.specs.Constancy.{capped}
use Rattle.cond_sums.specs.Sums.{counted}

pub replaced : (b elsewhere : Bool) (old kept new other : ℕ) → elsewhere ≡ not b → capped kept ≡ capped (counted elsewhere old) → capped new ≡ capped (kept + counted b other) → capped new ≡ (if b then capped other else capped old)
replaced true elsewhere old kept new other is restricted pushed =
    let e : capped kept ≡ capped 0 = restricted ∙ ap (λ b. capped (counted b old)) is in
    omega (arith, e, pushed)
replaced false elsewhere old kept new other is restricted pushed =
    let e : capped kept ≡ capped old = restricted ∙ ap (λ b. capped (counted b old)) is in
    omega (arith, e, pushed)
