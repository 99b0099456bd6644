use Rattle.quick_trees.proofs.Spelled.{trees_are_spelled_lem}
use Rattle.quick_trees.proofs.trees_are_spelled.Goals as goal

pub returns : goal.returns
returns c = trees_are_spelled_lem
