use Rattle.std.specs.Prelude.{All}
use Rattle.cond_formula.specs.Conditions.{condition_of, VarsBelow}
use Rattle.condition_cases.proofs.classes.ties_of.Given as goal

abbrev pub invariant-loop-row : goal.invariant-loop-row
invariant-loop-row l = All (λ t. VarsBelow 128 (condition_of t.when)) l.ties.items
