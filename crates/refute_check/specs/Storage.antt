-- The accepted clauses as they are stored.
use Rattle.std.specs.Prelude.{ℕ, ℤ, ◌≤◌, List, map, length, slice_range, All}
use Rattle.refute_check.specs.declared.store.Stored.{Stored}
use Rattle.refute_check.specs.Clauses.{variable_of}
use Rattle.refute_check.specs.Entries.{Entry, entry}

-- How the accepted clauses are stored: the literals of all of them in one list, and the place of each in it.
abbrev pub entry_at : List ℤ → Stored → Entry
entry_at literals stored = entry (slice_range literals stored.start stored.end) stored.derived

abbrev pub entries_in : List ℤ → List Stored → List Entry
entries_in literals clauses = map (entry_at literals) clauses

-- each place lies within the literals
pub record AreWithin (literals : List ℤ) (clauses : List Stored) : Type 0 where
  pub ordered : All (λ stored. stored.start ≤ stored.end) clauses
  pub within : All (λ stored. stored.end ≤ length literals) clauses

-- no literal has a variable past this number
pub record AreOver (vars : ℕ) (literals : List ℤ) : Type 0 where
  pub each : All (λ literal. variable_of literal ≤ vars) literals
