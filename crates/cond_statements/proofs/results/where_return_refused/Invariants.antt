use Rattle.std.proofs.Common.{ℕ, Bool}
use Rattle.cond_formula.specs.Conditions.{condition_of, value}
use Rattle.cond_operands.specs.Operands.{Judged, ShowsOperand}
use Rattle.type_tables.specs.Forms.{declared_type_form}
use Rattle.cond_statements.specs.Results.{return_refused}
use Rattle.cond_statements.proofs.Refusals.{SomeSoFar}
use Rattle.cond_statements.proofs.results.where_return_refused.Given as goal

abbrev pub invariant-loop-alternative : goal.invariant-loop-alternative
invariant-loop-alternative l =
    (on : ℕ → Bool) (x : Judged) → ShowsOperand on x l.operands → SomeSoFar declared_type_form (return_refused x) on l.alternative-items l.alternative-index (value on (condition_of l.refused))
