use Rattle.entity_kinds.proofs.Units.{kinds_are_alike}
use Rattle.entity_kinds.proofs.kinds_are_alike.Goals as goal

pub returns : goal.returns
returns c = kinds_are_alike c.units_are_derived.ensures c.sizes_bind_nothing.ensures
