use Rattle.std.proofs.Common.{◌≡◌, ℕ, Bool, ◌||◌, drop}
use Rattle.cond_formula.specs.Conditions.{condition_of, value}
use Rattle.cond_initialisers.specs.Rows.{rows, some_row}
use Rattle.cond_initialisers.proofs.rows.where_some_row.Given as goal

abbrev pub invariant-loop-entry : goal.invariant-loop-entry
invariant-loop-entry l = (on : ℕ → Bool) → (value on (condition_of l.some) || some_row (rows on (drop l.entry-index l.entries))) ≡ some_row (rows on l.entries)
