use Rattle.quick_parser.proofs.Machine.{one_step_more}
use Rattle.quick_parser.proofs.laws.one_step_more.Goals as goal

pub returns : goal.returns
returns c = one_step_more
