use Rattle.run_pairs.proofs.WorkedTrees.{worked_trees_lem}
use Rattle.run_pairs.proofs.worked_trees.Goals as goal

pub returns : goal.returns
returns c = worked_trees_lem
