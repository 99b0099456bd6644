use Rattle.quick_parser.proofs.Machine.{refused_is_unwritten}
use Rattle.quick_parser.proofs.laws.refused_is_unwritten.Goals as goal

pub returns : goal.returns
returns c = refused_is_unwritten
