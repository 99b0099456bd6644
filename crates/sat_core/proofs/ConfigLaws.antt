-- Configurations, bit by bit.
use Rattle.std.proofs.Common.{◌≡◌, ℕ, ◌<◌, Bool, false, eqb, ◌∙◌, ap, inl, inr}
use Rattle.std.proofs.lemmas.Bool.{cases_lt}
use Rattle.std.specs.Int.{bit_at}
use Rattle.cond_formula.specs.Features.{has, bits_of}
use Rattle.cond_formula.specs.FeatureBits.{has_bit-below, has-past}

pub has_at : (bits feature : ℕ) (value : Bool) → feature < 128 → eqb (bit_at bits feature) 1 ≡ value → has (bits_of 128 bits) feature ≡ value
has_at bits feature value within is = has_bit-below bits feature within ∙ is

pub has_not : (bits feature : ℕ) → bit_at bits feature ≡ 0 → has (bits_of 128 bits) feature ≡ false
has_not bits feature none =
    elim (cases_lt feature 128) [
      | inl within ↦ has_bit-below bits feature within ∙ ap (λ (bit : ℕ). eqb bit 1) none
      | inr past ↦ has-past (bits_of 128 bits) feature past
    ]
