use Rattle.entity_numbers.proofs.Matched.{numbered_are_bound_alike}
use Rattle.entity_numbers.proofs.numbered_are_bound_alike.Goals as goal

pub returns : goal.returns
returns c = numbered_are_bound_alike
