use Rattle.clause_search.specs.LeastLaws.{least_on_first}
use Rattle.clause_search.proofs.laws.least_is_least_on_the_first_variables.Goals as goal

pub returns : goal.returns
returns c = least_on_first
