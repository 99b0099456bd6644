-- The clauses that a checker has accepted.
use Rattle.std.specs.Prelude.{ℤ, Bool, ◌&&◌, if◌then◌else◌, List, [], ◌∷◌, map}
use Rattle.std.specs.List.{list_any}
use Rattle.refute_check.specs.Refutations.{has_no_literals}

-- a clause, and whether it was derived by a step and not given
pub record Entry : Type 0 where
  pub clause : List ℤ
  pub derived : Bool

abbrev pub entry : List ℤ → Bool → Entry
entry clause derived = record { clause = clause; derived = derived }

abbrev pub clauses_of : List Entry → List (List ℤ)
clauses_of entries = map (λ entry. entry.clause) entries

abbrev pub given_of : List Entry → List (List ℤ)
given_of [] = []
given_of (first ∷ rest) = if first.derived then given_of rest else first.clause ∷ given_of rest

abbrev pub has_empty_step : List Entry → Bool
has_empty_step entries = list_any (λ entry. entry.derived && has_no_literals entry.clause) entries
