use Rattle.clause_search.specs.LeastLaws.{one_least}
use Rattle.clause_search.proofs.laws.least_assignments_are_the_same.Goals as goal

pub returns : goal.returns
returns c = one_least
