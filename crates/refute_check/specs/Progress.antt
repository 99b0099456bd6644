-- How far a checker has come, and what each call answers.
use Rattle.std.specs.Prelude.{ℕ, ℤ, ◌+◌, ◌-◌, ◌^◌, min, if◌then◌else◌, List, [], ◌∷◌, ◌++◌, length, Option, None, Some}
use Rattle.refute_check.specs.declared.refusals.CheckKind.{CheckKind}
use Rattle.refute_check.specs.declared.refusals.CheckKind.TheVariants.{NoEmptyClause, Syntax}
use Rattle.refute_check.specs.declared.refusals.CheckError.{CheckError}
use Rattle.refute_check.specs.Clauses.{is_clause}
use Rattle.refute_check.specs.Steps.{step_fault}
use Rattle.refute_check.specs.Entries.{Entry, clauses_of, has_empty_step}

pub record Progress : Type 0 where
  pub vars : ℕ
  -- what was accepted; hints are places here, counted from 1
  pub entries : List Entry
  -- how many calls were accepted
  pub calls : ℕ
  pub refusal : Option CheckError
  pub spare_clauses : ℕ
  pub spare_literals : ℕ

abbrev pub begun : ℕ → ℕ → ℕ → Progress
begun vars clauses literals = record {
  vars = vars;
  entries = [];
  calls = 0;
  refusal = None;
  spare_clauses = clauses;
  spare_literals = literals;
}

-- the number of the next call; the count stops at the largest number of 64 bits
abbrev pub next_call : Progress → ℕ
next_call progress = min (progress.calls + 1) (2 ^ 64 - 1)

-- once a clause is accepted
abbrev pub with_entry : Progress → Entry → Progress
with_entry progress added = record progress {
  entries = progress.entries ++ added ∷ [];
  calls = next_call progress;
  spare_clauses = progress.spare_clauses - 1;
  spare_literals = progress.spare_literals - length added.clause;
}

abbrev pub with_call : Progress → Progress
with_call progress = record progress { calls = next_call progress }

abbrev pub refused : Progress → CheckError → Progress
refused progress refusal = record progress { refusal = Some refusal }

-- the first refusal is the answer for good
abbrev pub first_refusal : Option CheckError → ℕ → Option CheckKind → Option CheckError
first_refusal (Some refusal) line fault = Some refusal
first_refusal None line None = None
first_refusal None line (Some kind) = Some (record { kind = kind; line = line })

-- how the next call is refused, if this is wrong with it
abbrev pub refusal_by : Progress → Option CheckKind → Option CheckError
refusal_by progress fault = first_refusal progress.refusal (next_call progress) fault

-- what is wrong with a given clause, or with a step after these clauses
abbrev pub fault_in : ℕ → List (List ℤ) → List ℤ → Option (List ℕ) → Option CheckKind
fault_in vars clauses clause None = if is_clause vars clause then None else Some Syntax
fault_in vars clauses clause (Some hints) = step_fault vars clauses clause hints

abbrev pub given_fault : Progress → List ℤ → Option CheckKind
given_fault progress clause = fault_in progress.vars (clauses_of progress.entries) clause None

abbrev pub derived_fault : Progress → List ℤ → List ℕ → Option CheckKind
derived_fault progress clause hints = fault_in progress.vars (clauses_of progress.entries) clause (Some hints)

-- what is wrong with an end here
abbrev pub end_fault : Progress → Option CheckKind
end_fault progress = if has_empty_step progress.entries then None else Some NoEmptyClause
