use Rattle.cond_typing.proofs.NullConstants.{of_tree}
use Rattle.cond_typing.proofs.laws.null_constants_are_numbers.Goals as goal

pub returns : goal.returns
returns c = of_tree
