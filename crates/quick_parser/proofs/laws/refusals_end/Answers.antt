use Rattle.quick_parser.proofs.Machine.{refusals_end}
use Rattle.quick_parser.proofs.laws.refusals_end.Goals as goal

pub returns : goal.returns
returns c = refusals_end
