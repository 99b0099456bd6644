-- What a search answers.
use Rattle.std.specs.Prelude.{ℕ, ℤ, List, map, Vec}
use Rattle.std.specs.declared.alloc.Global.{Global}
use Rattle.refute_check.specs.Refutations as refutations
use Rattle.refute_check.specs.Refutations.{IsRefutation}
use Rattle.clause_search.specs.declared.answers.Step.{Step}
use Rattle.clause_search.specs.declared.answers.Found.{Found}
use Rattle.clause_search.specs.declared.answers.Found.TheVariants.{Least, Refuted}
use Rattle.clause_search.specs.Least.{IsLeast}

-- the literals of clauses
abbrev pub literals_of : List (Vec ℤ Global) → List (List ℤ)
literals_of clauses = map (λ clause. clause.items) clauses

abbrev pub step_of : Step → refutations.Step
step_of step = record { clause = step.clause.items; hints = step.hints.items }

abbrev pub steps_of : List Step → List refutations.Step
steps_of steps = map step_of steps

-- The least assignment, or a refutation.
abbrev pub IsFound : ℕ → List (List ℤ) → Found → Type 0
IsFound vars clauses (Least values) = IsLeast vars clauses values.items
IsFound vars clauses (Refuted steps) = IsRefutation vars clauses (steps_of steps.items)
