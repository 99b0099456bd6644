-- Refutations: lists of well-checked steps, of which one has no literals.
use Rattle.std.specs.Prelude.{◌≡◌, ℕ, ℤ, Bool, true, false, ◌&&◌, List, [], ◌∷◌, ◌++◌, IsTrue, is_none}
use Rattle.std.specs.List.{list_all, list_any}
use Rattle.refute_check.specs.Clauses.{is_clause, all_hold}
use Rattle.refute_check.specs.Steps.{step_fault}

pub record Step : Type 0 where
  pub clause : List ℤ
  pub hints : List ℕ

abbrev pub has_no_literals : List ℤ → Bool
has_no_literals [] = true
has_no_literals (first ∷ rest) = false

-- Clauses and steps are numbered together, so each step may use the clauses and the steps before it.
abbrev pub well_checked : ℕ → List (List ℤ) → List Step → Bool
well_checked vars clauses [] = true
well_checked vars clauses (first ∷ rest) =
    is_none (step_fault vars clauses first.clause first.hints) && well_checked vars (clauses ++ first.clause ∷ []) rest

pub record IsRefutation (vars : ℕ) (given : List (List ℤ)) (steps : List Step) : Type 0 where
  pub formed : IsTrue (list_all (is_clause vars) given)
  pub checked : IsTrue (well_checked vars given steps)
  pub ended : IsTrue (list_any (λ step. has_no_literals step.clause) steps)

-- No assignment satisfies clauses that have a refutation.
abbrev pub RefutationLaw : Type 0
RefutationLaw =
    (vars : ℕ) (given : List (List ℤ)) (steps : List Step) → IsRefutation vars given steps → (values : ℕ → Bool) → all_hold values given ≡ false
