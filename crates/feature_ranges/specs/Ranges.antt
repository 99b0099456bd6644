-- Features that are off.
use Rattle.std.specs.Prelude.{◌≡◌, ℕ, ◌≤◌, Bool, false}

-- each feature from this number on is off
abbrev pub IsOffFrom : ℕ → (ℕ → Bool) → Type 0
IsOffFrom features on = (feature : ℕ) → features ≤ feature → on feature ≡ false
