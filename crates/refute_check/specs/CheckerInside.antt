-- What the fields of a checker say, and what is true of them.
use Rattle.std.specs.Prelude.{◌≡◌, ℕ, ◌+◌, ◌<◌, ◌≤◌, ◌^◌, Bool, true, vec_len, vec_capacity, IsNone}
use Rattle.refute_check.specs.declared.checker.Checker.TheInside.{Inside}
use Rattle.refute_check.specs.Clauses.{all_hold}
use Rattle.refute_check.specs.Entries.{clauses_of, given_of, has_empty_step}
use Rattle.refute_check.specs.Storage.{entries_in, AreWithin, AreOver}
use Rattle.refute_check.specs.Marks.{UpTo}
use Rattle.refute_check.specs.Progress.{Progress}

abbrev pub progress_of : Inside → Progress
progress_of c = record {
  vars = c.vars;
  entries = entries_in c.literals.items c.clauses.items;
  calls = c.calls;
  refusal = c.refusal;
  spare_clauses = c.spare_clauses;
  spare_literals = c.spare_literals;
}

pub record IsChecker (c : Inside) : Type 0 where
  pub sized : vec_len c.marks ≡ c.vars + 1
  pub small : c.vars < 2147483648
  pub within : AreWithin c.literals.items c.clauses.items
  pub over : AreOver c.vars c.literals.items
  -- no mark was made for the next clause
  pub fresh : IsNone c.refusal → UpTo (vec_len c.clauses) c.marks.items
  pub numbered : vec_len c.clauses + c.spare_clauses < 2 ^ 32
  pub clause_room : vec_len c.clauses + c.spare_clauses ≤ vec_capacity c.clauses
  pub literal_room : vec_len c.literals + c.spare_literals ≤ vec_capacity c.literals
  pub ended : c.refuted ≡ has_empty_step (entries_in c.literals.items c.clauses.items)
  -- the derived clauses follow from the given ones
  pub sound : (values : ℕ → Bool) → all_hold values (given_of (entries_in c.literals.items c.clauses.items)) ≡ true → all_hold values (clauses_of (entries_in c.literals.items c.clauses.items)) ≡ true
