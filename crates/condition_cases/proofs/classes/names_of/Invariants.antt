use Rattle.std.specs.Prelude.{All}
use Rattle.cond_formula.specs.Conditions.{condition_of, VarsBelow}
use Rattle.condition_cases.proofs.classes.names_of.Given as goal

abbrev pub invariant-loop-row : goal.invariant-loop-row
invariant-loop-row l = All (λ n. VarsBelow 128 (condition_of n.when)) l.names.items
