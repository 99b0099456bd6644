use Rattle.clause_search.specs.Answers.{literals_of}
use Rattle.clause_search.specs.Searches.{IsSearching}
use Rattle.clause_search.proofs.turns.search.Given as goal

abbrev pub invariant-loop : goal.invariant-loop
invariant-loop l = IsSearching l.vars (literals_of l.clauses) l.state
