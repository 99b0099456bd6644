use Rattle.quick_trees.proofs.Elaborated.{core_is_elaborated_lem}
use Rattle.quick_trees.proofs.core_is_elaborated.Goals as goal

pub returns : goal.returns
returns c = core_is_elaborated_lem
