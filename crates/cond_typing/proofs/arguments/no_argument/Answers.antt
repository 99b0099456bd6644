use Rattle.cond_typing.proofs.ArgumentsPlaced.{none_yet}
use Rattle.cond_typing.proofs.arguments.no_argument.Goals as goal

pub returns : goal.returns
returns c = λ on reads. none_yet on reads c.nothing.result (c.nothing.ensures on)
