use Rattle.choice_states.proofs.Reading.{trees_are_read_lem}
use Rattle.choice_states.proofs.laws.trees_are_read.Goals as goal

pub returns : goal.returns
returns c = trees_are_read_lem
