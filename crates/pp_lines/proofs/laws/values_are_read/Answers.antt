use Rattle.pp_lines.proofs.ExpressionValues.{values_are_read}
use Rattle.pp_lines.proofs.laws.values_are_read.Goals as goal

pub returns : goal.returns
returns c = values_are_read
