use Rattle.linked_otherwise.proofs.Closed.{closed-together}
use Rattle.linked_otherwise.proofs.closed_are_renamed_together.Goals as goal

pub returns : goal.returns
returns c = closed-together
