-- What is answered of a condition.
use Rattle.std.specs.Prelude.{ℕ, ℤ, List, ⊤}
use Rattle.cond_formula.specs.Conditions.{Condition}
use Rattle.refute_check.specs.Refutations.{Step, IsRefutation}
use Rattle.clause_search.specs.Answers.{literals_of, steps_of}
use Rattle.sat_core.specs.declared.answers.Answer.{Answer}
use Rattle.sat_core.specs.declared.answers.Answer.TheVariants.{Sat, Unsat, Memory}
use Rattle.sat_core.specs.Models.{IsLeastModel, HasNoModel}
use Rattle.sat_core.specs.Translations.{IsTranslation}

-- the steps refute the clauses, which are a translation of the condition; so no set of features makes it true
pub record Refutes (features : ℕ) (condition : Condition) (vars : ℕ) (given : List (List ℤ)) (steps : List Step) : Type 0 where
  pub translation : IsTranslation features condition vars given
  pub refutation : IsRefutation vars given steps
  pub no_model : HasNoModel condition

-- The least model, or a refutation, or want of memory.
abbrev pub IsAnswer : ℕ → Condition → Answer → Type 0
IsAnswer features condition (Sat config) = IsLeastModel features condition config
IsAnswer features condition (Unsat proof) =
    Refutes features condition proof.vars (literals_of proof.given.items) (steps_of proof.steps.items)
IsAnswer features condition Memory = ⊤
