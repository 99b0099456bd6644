use Rattle.quick_trees.proofs.Alike.{names_are_read_lem}
use Rattle.quick_trees.proofs.names_are_read.Goals as goal

pub returns : goal.returns
returns c = names_are_read_lem
