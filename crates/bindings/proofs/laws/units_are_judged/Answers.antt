use Rattle.bindings.proofs.Lawful.{units_are_judged}
use Rattle.bindings.proofs.laws.units_are_judged.Goals as goal

pub returns : goal.returns
returns c = units_are_judged c.units_are_derived.ensures
