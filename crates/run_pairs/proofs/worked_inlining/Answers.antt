use Rattle.run_pairs.proofs.WorkedInlining.{worked_inlining_lem}
use Rattle.run_pairs.proofs.worked_inlining.Goals as goal

pub returns : goal.returns
returns c = worked_inlining_lem
