use Rattle.moved_trees.proofs.Machines.{read_changed}
use Rattle.moved_trees.proofs.changed_are_read.Goals as goal

pub returns : goal.returns
returns c = read_changed
