use Rattle.std.proofs.Common.{◌≡◌, drop}
use Rattle.refute_check.specs.Clauses.{is_clause}
use Rattle.clause_search.proofs.forms.is_clause.Given as goal

abbrev pub invariant-loop-index : goal.invariant-loop-index
invariant-loop-index l = is_clause l.vars (drop l.index l.clause) ≡ is_clause l.vars l.clause
