-- The values of the variables, as they are marked for the clause with one number.
use Rattle.std.specs.Prelude.{ℕ, ℤ, ◌≤◌, ◌==◌, Bool, ◌&&◌, if◌then◌else◌, List, [], ◌∷◌, map, Option, None, Some, is_none, All}
use Rattle.refute_check.specs.declared.marks.Mark.{Mark}
use Rattle.refute_check.specs.Clauses.{is_literal}
use Rattle.refute_check.specs.Steps.{value_of, taken_false}

abbrev pub marked : ℕ → Mark → Option Bool
marked number mark = if mark.number == number then Some mark.value else None

abbrev pub values_at : ℕ → List Mark → List (Option Bool)
values_at number marks = map (marked number) marks

-- the marks were made for clauses with at most this number
pub record UpTo (number : ℕ) (marks : List Mark) : Type 0 where
  pub each : All (λ mark. mark.number ≤ number) marks

-- The values once the literals of a clause are taken as false, one after another, or nothing where one isn't a literal or its
-- variable has a value.
abbrev pub taken : ℕ → List (Option Bool) → List ℤ → Option (List (Option Bool))
taken vars values [] = Some values
taken vars values (first ∷ rest) =
    if is_literal vars first && is_none (value_of values first) then taken vars (taken_false values first) rest else None
