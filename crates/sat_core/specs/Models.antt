-- Models of conditions, and the least of them.
use Rattle.std.specs.Prelude.{◌≡◌, ℕ, ◌<◌, ◌≤◌, Bool, true, false, List, IsTrue, ◌⊎◌}
use Rattle.cond_formula.specs.Features.{has}
use Rattle.cond_formula.specs.Conditions.{Condition, value}

-- the first feature that differs, one below this number, is off in one set and on in the other
pub record IsLess (features : ℕ) (on other : ℕ → Bool) : Type 0 where
  pub first : ℕ
  pub within : first < features
  pub same_before : (feature : ℕ) → feature < first → on feature ≡ other feature
  pub off : on first ≡ false
  pub other_on : other first ≡ true

-- the sets agree on each feature below this number
pub record AreSame (features : ℕ) (on other : ℕ → Bool) : Type 0 where
  pub same : (feature : ℕ) → feature < features → on feature ≡ other feature

-- A configuration of these features makes the condition true, and any other set of features that makes it true and differs on
-- them is greater: of two configurations the lesser is the one in which the first feature that differs is off.
pub record IsLeastModel (features : ℕ) (condition : Condition) (config : List Bool) : Type 0 where
  pub holds : IsTrue (value (has config) condition)
  pub within : (feature : ℕ) → features ≤ feature → has config feature ≡ false
  pub least : (on : ℕ → Bool) → IsTrue (value on condition) → AreSame features (has config) on ⊎ IsLess features (has config) on

-- no set of features makes the condition true
abbrev pub HasNoModel : Condition → Type 0
HasNoModel condition = (on : ℕ → Bool) → value on condition ≡ false
