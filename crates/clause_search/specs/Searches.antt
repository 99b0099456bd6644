-- How far a search has come.
use Rattle.std.specs.Prelude.{◌≡◌, ℕ, ℤ, ◌≤◌, ◌<◌, Bool, true, false, List, [], ◌∷◌, ◌++◌, length, Option, None, is_none, slice_index_or}
use Rattle.refute_check.specs.Clauses.{variable_of, is_positive, is_clause, clause_holds, all_hold}
use Rattle.refute_check.specs.Refutations as refutations
use Rattle.refute_check.specs.Refutations.{IsRefutation, well_checked}
use Rattle.refute_check.specs.Steps.{no_values, all_taken_false}
use Rattle.clause_search.specs.declared.turns.State.{State}
use Rattle.clause_search.specs.declared.turns.Turn.{Turn}
use Rattle.clause_search.specs.declared.turns.Turn.TheVariants.{Onward, Least, Refuted}
use Rattle.clause_search.specs.Least.{IsLeast}
use Rattle.clause_search.specs.Answers.{steps_of}
use Rattle.clause_search.specs.Following.{numbered}
use Rattle.clause_search.specs.Known.{Known, AreFollowed}

-- A decision takes a variable as false. The decisions are kept as the literals of the clause that says that one of them is
-- wrong. A decision on this literal was due: the assignments that satisfy the clauses and keep to the decisions before it
-- agree on all earlier variables.
pub record IsDue (given : List (List ℤ)) (before : List ℤ) (literal : ℤ) : Type 0 where
  pub positive : is_positive literal ≡ true
  pub forced : (one other : ℕ → Bool) → all_hold one given ≡ true → all_hold other given ≡ true → clause_holds one before ≡ false → clause_holds other before ≡ false → (variable : ℕ) → 1 ≤ variable → variable < variable_of literal → one variable ≡ other variable

-- each decision was due after those before it
abbrev pub AreDue : List (List ℤ) → List ℤ → List ℤ → Type 0
AreDue given before [] = Unit {0}
AreDue given before (first ∷ rest) = IsDue given before first × AreDue given (before ++ first ∷ []) rest

pub record IsSearch (vars : ℕ) (given : List (List ℤ)) (steps : List refutations.Step) (decisions : List ℤ) : Type 0 where
  pub formed : is_clause vars decisions ≡ true
  pub checked : well_checked vars given steps ≡ true
  pub due : AreDue given [] decisions

abbrev pub IsSearching : ℕ → List (List ℤ) → State → Type 0
IsSearching vars given state = IsSearch vars given (steps_of state.steps.items) state.decisions.items

-- what is known was found from the decisions
abbrev pub IsKnown : ℕ → List (List ℤ) → State → Known → Type 0
IsKnown vars given state known =
    AreFollowed (numbered given (steps_of state.steps.items)) (all_taken_false (no_values vars) state.decisions.items) known

-- the variables from 1 up to below this number have values
pub record AreValued (values : List (Option Bool)) (below : ℕ) : Type 0 where
  pub each : (variable : ℕ) → 1 ≤ variable → variable < below → is_none (slice_index_or values variable None) ≡ false

-- the first variable that has no value
pub record IsFirstOpen (values : List (Option Bool)) (variable : ℕ) : Type 0 where
  pub numbered : 1 ≤ variable
  pub within : variable < length values
  pub valueless : slice_index_or values variable None ≡ None
  pub earlier : AreValued values variable

-- what a turn of the search comes to
abbrev pub HasTurned : ℕ → List (List ℤ) → State → Turn → Type 0
HasTurned vars given state Onward = IsSearching vars given state
HasTurned vars given state (Least values) = IsLeast vars given values.items
HasTurned vars given state Refuted = IsRefutation vars given (steps_of state.steps.items)
