use Rattle.c_types.proofs.ConversionLaws.{converted-value}
use Rattle.c_types.proofs.laws.converting_again_changes_nothing.Goals as goal

pub returns : goal.returns
returns c = converted-value
