-- The least assignment that satisfies clauses. Of two assignments the lesser is the one that is false at the first variable,
-- in the order of their numbers, where they differ.
use Rattle.std.specs.Prelude.{◌≡◌, ℕ, zero, suc, ℤ, ◌-◌, ◌≤◌, ◌⊎◌, Bool, true, false, List, length, slice_index_or}
use Rattle.std.specs.List.{list_all}
use Rattle.refute_check.specs.Clauses.{is_clause, all_hold}

-- the assignment that a list of values gives, of which the first is that of variable 1
abbrev pub assignment : List Bool → ℕ → Bool
assignment values zero = false
assignment values (suc index) = slice_index_or values index false

-- the assignments give the same values to the variables from 1 up to this number
pub record AgreeUpTo (last : ℕ) (one other : ℕ → Bool) : Type 0 where
  pub each : (variable : ℕ) → 1 ≤ variable → variable ≤ last → one variable ≡ other variable

-- the assignments differ at this variable, and at none before it, and the first of them is the lesser
pub record IsLesserAt (variable : ℕ) (one other : ℕ → Bool) : Type 0 where
  pub numbered : 1 ≤ variable
  pub same : AgreeUpTo (variable - 1) one other
  pub off : one variable ≡ false
  pub on : other variable ≡ true

-- on the variables from 1 up to this number the first assignment is the lesser, or they are the same
abbrev pub IsNoGreater : ℕ → (ℕ → Bool) → (ℕ → Bool) → Type 0
IsNoGreater vars one other = AgreeUpTo vars one other ⊎ ((variable : ℕ) × (variable ≤ vars) × IsLesserAt variable one other)

-- the values of variables 1 up to this number, in order, of the least assignment that satisfies the clauses
pub record IsLeast (vars : ℕ) (clauses : List (List ℤ)) (values : List Bool) : Type 0 where
  pub sized : length values ≡ vars
  pub satisfies : all_hold (assignment values) clauses ≡ true
  pub least : (other : ℕ → Bool) → all_hold other clauses ≡ true → IsNoGreater vars (assignment values) other

-- What is least on all variables is least on the first of them, so what the other variables stand for has no part in it.
abbrev pub LeastOnFirstLaw : Type 0
LeastOnFirstLaw =
    (vars count : ℕ) (clauses : List (List ℤ)) (values : List Bool) → count ≤ vars → IsLeast vars clauses values → (other : ℕ → Bool) → all_hold other clauses ≡ true → IsNoGreater count (assignment values) other

-- There is one least assignment at most.
abbrev pub OneLeastLaw : Type 0
OneLeastLaw = (vars : ℕ) (clauses : List (List ℤ)) (values others : List Bool) → IsLeast vars clauses values → IsLeast vars clauses others → values ≡ others

-- Whether clauses hold depends on their variables alone.
abbrev pub VariablesLaw : Type 0
VariablesLaw = (vars : ℕ) (clauses : List (List ℤ)) (one other : ℕ → Bool) → list_all (is_clause vars) clauses ≡ true → AgreeUpTo vars one other → all_hold one clauses ≡ all_hold other clauses
