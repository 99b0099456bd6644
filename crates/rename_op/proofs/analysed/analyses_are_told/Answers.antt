use Rattle.rename_op.proofs.Products.{are_told}
use Rattle.rename_op.proofs.analysed.analyses_are_told.Goals as goal

pub returns : goal.returns
returns c = are_told
