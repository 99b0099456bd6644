use Rattle.choice_trees.proofs.Spelling.{leaves_are_spelled_lem}
use Rattle.choice_trees.proofs.laws.leaves_are_spelled.Goals as goal

pub returns : goal.returns
returns c = leaves_are_spelled_lem
