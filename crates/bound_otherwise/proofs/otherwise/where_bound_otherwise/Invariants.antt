use Rattle.std.proofs.Common.{ℕ, Bool}
use Rattle.cond_formula.specs.Conditions.{condition_of, value}
use Rattle.bound_otherwise.proofs.Units.{SoFar}
use Rattle.bound_otherwise.proofs.otherwise.where_bound_otherwise.Given as goal

abbrev pub invariant-loop-place : goal.invariant-loop-place
invariant-loop-place l = (on : ℕ → Bool) → SoFar on l.before l.after (value on (condition_of l.otherwise)) l.place
