use Rattle.quick_parser.proofs.Machine.{states_begin}
use Rattle.quick_parser.proofs.laws.states_begin.Goals as goal

pub returns : goal.returns
returns c = states_begin
