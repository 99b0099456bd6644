use Rattle.clause_search.specs.LeastLaws.{by_variables}
use Rattle.clause_search.proofs.laws.clauses_depend_on_their_variables.Goals as goal

pub returns : goal.returns
returns c = by_variables
