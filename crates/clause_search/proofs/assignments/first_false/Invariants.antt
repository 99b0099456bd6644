use Rattle.std.proofs.Common.{◌≡◌, drop}
use Rattle.std.specs.List.{list_any}
use Rattle.refute_check.specs.Steps.{all_false}
use Rattle.clause_search.specs.Answers.{literals_of}
use Rattle.clause_search.proofs.assignments.first_false.Given as goal

abbrev pub invariant-loop-index : goal.invariant-loop-index
invariant-loop-index l =
    list_any (all_false l.values) (literals_of (drop l.index l.clauses)) ≡ list_any (all_false l.values) (literals_of l.clauses)
