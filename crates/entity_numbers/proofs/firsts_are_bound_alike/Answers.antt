use Rattle.entity_numbers.proofs.Places.{firsts_are_bound_alike}
use Rattle.entity_numbers.proofs.firsts_are_bound_alike.Goals as goal

pub returns : goal.returns
returns c = firsts_are_bound_alike
