use Rattle.clause_search.specs.Searches.{AreValued}
use Rattle.clause_search.proofs.assignments.first_open.Given as goal

abbrev pub invariant-loop-variable : goal.invariant-loop-variable
invariant-loop-variable l = AreValued l.values l.variable
