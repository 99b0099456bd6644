-- Partial assignments of features, as two numbers: which features are assigned, and which of those are on.
use Rattle.std.specs.Prelude.{◌≡◌, ◌≢◌, ℕ, Bool, List, IsTrue}
use Rattle.cond_formula.specs.Features.{has, bits_of}

-- whether a number has the bit of a feature
abbrev pub has_bit : ℕ → ℕ → Bool
has_bit bits feature = has (bits_of 128 bits) feature

-- the configuration agrees with the cube on each feature that the cube assigns
pub record Agrees (mask value : ℕ) (on : List Bool) : Type 0 where
  pub on_each : (feature : ℕ) → IsTrue (has_bit mask feature) → has on feature ≡ has_bit value feature

-- both cubes assign some feature, and differ on it
pub record Clash (mask value other_mask other_value : ℕ) : Type 0 where
  pub feature : ℕ
  pub assigned : IsTrue (has_bit mask feature)
  pub also_assigned : IsTrue (has_bit other_mask feature)
  pub different : has_bit value feature ≢ has_bit other_value feature
