use Rattle.bindings.proofs.Lawful.{declared_is_unrefused}
use Rattle.bindings.proofs.laws.declared_is_unrefused.Goals as goal

pub returns : goal.returns
returns c = declared_is_unrefused c.units_are_derived.ensures
