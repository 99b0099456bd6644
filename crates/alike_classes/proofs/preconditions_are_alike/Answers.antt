use Rattle.alike_classes.proofs.Preconditions.{preconditions-alike}
use Rattle.alike_classes.proofs.preconditions_are_alike.Goals as goal

pub returns : goal.returns
returns c = preconditions-alike
