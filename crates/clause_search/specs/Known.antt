-- What is known of the variables in a turn of the search, and what looking at clauses does to it.
use Rattle.std.specs.Prelude.{◌≡◌, ℕ, ℤ, Bool, false, List, [], ◌∷◌, ◌++◌, Option, Some, All}
use Rattle.clause_search.specs.declared.trail.Trail.{Trail}
use Rattle.clause_search.specs.declared.trail.Effect.{Effect}
use Rattle.clause_search.specs.declared.trail.Effect.TheVariants.{Refutes, Extends, Idle}
use Rattle.clause_search.specs.declared.trail.Pass.{Pass}
use Rattle.clause_search.specs.declared.trail.Pass.TheVariants.{Conflict, Changed, Stable}
use Rattle.refute_check.specs.Steps.{Judgement, false_clause, unit, neither, hint_judgement, clause_at, taken_true}
use Rattle.clause_search.specs.Following.{followed}

pub record Known : Type 0 where
  -- by the variables' numbers
  pub values : List (Option Bool)
  -- the clauses that gave the values, after those of the decisions, in the order in which they did
  pub hints : List ℕ

abbrev pub known_of : Trail → Known
known_of trail = record { values = trail.values.items; hints = trail.hints.items }

-- once the clause with this number has made a literal true
abbrev pub with_literal : Known → ℤ → ℕ → Known
with_literal known literal number = record {
  values = taken_true known.values literal;
  hints = known.hints ++ number ∷ [];
}

-- what is done where the clause with this number is so judged
abbrev pub HasEffect : Judgement → ℕ → Effect → Known → Known → Type 0
HasEffect false_clause number effect before after = (effect ≡ Refutes) × (after ≡ before)
HasEffect (unit literal) number effect before after = (effect ≡ Extends) × (after ≡ with_literal before literal number)
HasEffect neither number effect before after = (effect ≡ Idle) × (after ≡ before)

-- from where they begin, the hints give the values
pub record AreFollowed (clauses : List (List ℤ)) (start : List (Option Bool)) (known : Known) : Type 0 where
  pub follow : followed clauses start known.hints ≡ Some known.values

-- more hints may have been followed
pub record GoesOn (clauses : List (List ℤ)) (before after : Known) : Type 0 where
  pub each : (start : List (Option Bool)) → AreFollowed clauses start before → AreFollowed clauses start after

-- the clause with this number is false
pub record IsRefutedAt (clauses : List (List ℤ)) (known : Known) (number : ℕ) : Type 0 where
  pub judged : hint_judgement known.values (clause_at clauses number) ≡ false_clause

-- none of the clauses with these numbers is false or makes a literal true
pub record IsSettled (clauses : List (List ℤ)) (known : Known) (numbers : List ℕ) : Type 0 where
  pub each : All (λ number. hint_judgement known.values (clause_at clauses number) ≡ neither) numbers

-- what a pass over the clauses with these numbers comes to
abbrev pub HasPassed : List (List ℤ) → List ℕ → Known → Pass → Type 0
HasPassed clauses numbers after (Conflict number) = IsRefutedAt clauses after number
HasPassed clauses numbers after Changed = Unit {0}
HasPassed clauses numbers after Stable = IsSettled clauses after numbers

-- how far a pass has come: as long as nothing changed, what is known is as before
pub record IsPassing (clauses : List (List ℤ)) (numbers : List ℕ) (before after : Known) (changed : Bool) : Type 0 where
  pub goes_on : GoesOn clauses before after
  pub same : changed ≡ false → after ≡ before
  pub settled : changed ≡ false → IsSettled clauses before numbers
