use Rattle.std.proofs.Common.{◌≡◌, drop}
use Rattle.refute_check.specs.Steps.{all_false}
use Rattle.clause_search.proofs.literals.are_false.Given as goal

abbrev pub invariant-loop-literal : goal.invariant-loop-literal
invariant-loop-literal l = all_false l.values (drop l.literal-index l.clause) ≡ all_false l.values l.clause
