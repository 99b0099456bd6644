use Rattle.quick_parser.proofs.Declared.{declared_behind_int}
use Rattle.quick_parser.proofs.laws.declared_behind_int.Goals as goal

pub returns : goal.returns
returns c = declared_behind_int
