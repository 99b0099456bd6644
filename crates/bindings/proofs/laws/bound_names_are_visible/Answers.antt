use Rattle.bindings.proofs.Lawful.{bound_names_are_visible}
use Rattle.bindings.proofs.laws.bound_names_are_visible.Goals as goal

pub returns : goal.returns
returns c = bound_names_are_visible c.units_are_derived.ensures
