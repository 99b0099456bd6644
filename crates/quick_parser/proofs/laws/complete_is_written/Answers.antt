use Rattle.quick_parser.proofs.Machine.{complete_is_written}
use Rattle.quick_parser.proofs.laws.complete_is_written.Goals as goal

pub returns : goal.returns
returns c = complete_is_written
