-- The longest prefix of a text that passes a test.
use Rattle.std.specs.Prelude.{◌≡◌, ℕ, ◌<◌, ◌≤◌, Bool, true, false, List, length, take}

-- so many bytes from the front pass, and no longer prefix does
pub record IsLongestAt (test : List ℕ → Bool) (text : List ℕ) (n : ℕ) : Type 0 where
  pub within : n ≤ length text
  pub passes : test (take n text) ≡ true
  pub fails : (m : ℕ) → n < m → m ≤ length text → test (take m text) ≡ false

-- no prefix passes
abbrev pub IsNever : (List ℕ → Bool) → List ℕ → Type 0
IsNever test text = (m : ℕ) → m ≤ length text → test (take m text) ≡ false

-- the same, with a length of 0 where no prefix but the empty one passes
pub record IsLongestOf (test : List ℕ → Bool) (text : List ℕ) (n : ℕ) : Type 0 where
  pub within : n ≤ length text
  pub passes : 0 < n → test (take n text) ≡ true
  pub fails : (m : ℕ) → n < m → m ≤ length text → test (take m text) ≡ false
