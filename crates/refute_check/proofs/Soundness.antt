-- No assignment satisfies clauses that have a refutation.
use Rattle.std.proofs.Common.{◌≡◌, ℕ, ℤ, Bool, true, ◌||◌, List, [], ◌∷◌}
use Rattle.std.proofs.lemmas.Bool.{false≢true, false_from_ne_true}
use Rattle.std.specs.List.{list_all, list_any}
use Rattle.refute_check.specs.Clauses.{clause_holds, all_hold}
use Rattle.refute_check.specs.Refutations.{Step, RefutationLaw, has_no_literals}
use Rattle.refute_check.specs.StepLaws.{left_true, right_true, steps_follow}

module _ (values : ℕ → Bool) where
  pub empty_or_later : (clause : List ℤ) (later : Bool) → clause_holds values clause ≡ true → (later ≡ true → ⊥) → (has_no_literals clause || later) ≡ true → ⊥
  empty_or_later [] later holds none ended = false≢true holds
  empty_or_later (first ∷ rest) later holds none ended = none ended

  no_step_is_empty : (steps : List Step) → list_all (λ step. clause_holds values step.clause) steps ≡ true → list_any (λ step. has_no_literals step.clause) steps ≡ true → ⊥
  no_step_is_empty [] hold ended = false≢true ended
  no_step_is_empty (first ∷ rest) hold ended = empty_or_later first.clause (list_any (λ step. has_no_literals step.clause) rest) (left_true (clause_holds values first.clause) (list_all (λ step. clause_holds values step.clause) rest) hold) (no_step_is_empty rest (right_true (clause_holds values first.clause) (list_all (λ step. clause_holds values step.clause) rest) hold)) ended

pub refutation_law : RefutationLaw
refutation_law vars given steps refutation values =
    false_from_ne_true (all_hold values given) (λ hold. no_step_is_empty values steps (steps_follow values vars given steps hold refutation.checked) refutation.ended)
