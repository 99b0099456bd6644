use Rattle.std.proofs.Common.{◌≡◌, drop}
use Rattle.std.specs.List.{list_all}
use Rattle.refute_check.specs.Clauses.{is_clause}
use Rattle.clause_search.specs.Answers.{literals_of}
use Rattle.clause_search.proofs.forms.are_clauses.Given as goal

abbrev pub invariant-loop-clause : goal.invariant-loop-clause
invariant-loop-clause l =
    list_all (is_clause l.vars) (literals_of (drop l.clause-index l.clauses)) ≡ list_all (is_clause l.vars) (literals_of l.clauses)
