use Rattle.operand_types.proofs.Kept.{types_are_kept_lem}
use Rattle.operand_types.proofs.types_are_kept.Goals as goal

pub returns : goal.returns
returns c = types_are_kept_lem
