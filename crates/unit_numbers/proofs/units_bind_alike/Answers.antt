use Rattle.unit_numbers.proofs.Alike.{units_bind_alike}
use Rattle.unit_numbers.proofs.units_bind_alike.Goals as goal

pub returns : goal.returns
returns c =
    units_bind_alike c.units_are_numbered.ensures c.firsts_are_bound_alike.ensures c.judgements_bind_alike.ensures c.identifiers_are_bound.ensures c.kinds_are_alike.ensures
    c.slots_are_of_functions.ensures c.uses_are_bound_before.ensures
