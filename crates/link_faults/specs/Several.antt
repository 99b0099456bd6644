-- Where there are one and two of something.
use Rattle.std.specs.Prelude.{◌≡◌, ℕ, nat_le, Bool}
use Rattle.cond_formula.specs.Conditions.{condition_of, value}
use Rattle.link_faults.specs.declared.several.Several.{Several}

-- there are so many
pub record Count (on : ℕ → Bool) (s : Several) (n : ℕ) : Type 0 where
  pub one : value on (condition_of s.one) ≡ nat_le 1 n
  pub two : value on (condition_of s.two) ≡ nat_le 2 n
