use Rattle.bound_names.proofs.Before.{uses_are_of_before}
use Rattle.bound_names.proofs.uses_are_of_before.Goals as goal

pub returns : goal.returns
returns c = uses_are_of_before
