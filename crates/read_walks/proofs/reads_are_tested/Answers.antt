use Rattle.read_walks.proofs.TestLemmas.{test-exact, test-joined, test-by_token}
use Rattle.read_walks.proofs.reads_are_tested.Goals as goal

pub returns-clause-exact : goal.returns-clause-exact
returns-clause-exact c = test-exact

pub returns-clause-joined : goal.returns-clause-joined
returns-clause-joined c = test-joined

pub returns-clause-by_token : goal.returns-clause-by_token
returns-clause-by_token c = test-by_token
