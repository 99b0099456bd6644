use Rattle.bindings.proofs.Lawful.{undeclared_is_first}
use Rattle.bindings.proofs.laws.undeclared_is_first.Goals as goal

pub returns : goal.returns
returns c = undeclared_is_first c.units_are_derived.ensures
