use Rattle.pp_lines.proofs.ExpressionValues.{values_are_one}
use Rattle.pp_lines.proofs.laws.values_are_one.Goals as goal

pub returns : goal.returns
returns c = values_are_one
