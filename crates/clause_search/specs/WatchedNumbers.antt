-- Numbers of clauses, and how many of them stay.
use Rattle.std.specs.Prelude.{ℕ, zero, suc, ◌+◌, List, [], ◌∷◌, ◌++◌, length, take, slice_index_or}

-- from 1 up to this one
abbrev pub numbers_to : ℕ → List ℕ
numbers_to zero = []
numbers_to (suc n) = numbers_to n ++ (n + 1) ∷ []

-- those that were there before so many decisions more were taken, where counts tells how many there were at each decision
abbrev pub numbers_before : List ℕ → ℕ → List ℕ → List ℕ
numbers_before counts decisions numbers = take (slice_index_or counts decisions (length numbers)) numbers
