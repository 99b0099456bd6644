use Rattle.quick_parser.proofs.Machine.{states_complete}
use Rattle.quick_parser.proofs.laws.states_complete.Goals as goal

pub returns : goal.returns
returns c = states_complete
