use Rattle.quick_trees.proofs.Elaborated.{elaborates_to_core_lem}
use Rattle.quick_trees.proofs.elaborates_to_core.Goals as goal

pub returns : goal.returns
returns c = elaborates_to_core_lem
