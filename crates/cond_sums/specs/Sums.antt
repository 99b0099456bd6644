-- Numbers in all configurations: a sum of parts, each there where its condition is true.
use Rattle.std.specs.Prelude.{ℕ, ◌+◌, Bool, true, false, List, [], ◌∷◌}
use Rattle.cond_formula.specs.Conditions.{condition_of, value}
use Rattle.cond_sums.specs.declared.sums.CondPart.{CondPart}
use Rattle.cond_sums.specs.declared.sums.CondSum.{CondSum}

-- a number where a condition is true, and 0 elsewhere
abbrev pub counted : Bool → ℕ → ℕ
counted true count = count
counted false count = 0

module _ (on : ℕ → Bool) where
  abbrev pub sum_of : List CondPart → ℕ
  sum_of [] = 0
  sum_of (part ∷ rest) = counted (value on (condition_of part.when)) part.count + sum_of rest

  -- the sum of the parts that are there
  abbrev pub sum_at : CondSum → ℕ
  sum_at s = sum_of s.parts.items
