use Rattle.std.proofs.Common.{ℕ, Bool}
use Rattle.cond_formula.specs.Conditions.{condition_of, value}
use Rattle.type_tables.specs.Forms.{declared_type_form}
use Rattle.cond_statements.specs.Results.{bare_return_refused}
use Rattle.cond_statements.proofs.Refusals.{SomeSoFar}
use Rattle.cond_statements.proofs.results.where_bare_return_refused.Given as goal

abbrev pub invariant-loop-alternative : goal.invariant-loop-alternative
invariant-loop-alternative l = (on : ℕ → Bool) → SomeSoFar declared_type_form bare_return_refused on l.alternative-items l.alternative-index (value on (condition_of l.refused))
