use Rattle.bindings.proofs.Lawful.{programs_are_judged}
use Rattle.bindings.proofs.laws.programs_are_judged.Goals as goal

pub returns : goal.returns
returns c = programs_are_judged c.units_are_derived.ensures
