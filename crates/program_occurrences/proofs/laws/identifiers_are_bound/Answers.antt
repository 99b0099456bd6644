use Rattle.program_occurrences.proofs.Bound.{identifiers_are_bound}
use Rattle.program_occurrences.proofs.laws.identifiers_are_bound.Goals as goal

pub returns : goal.returns
returns c = identifiers_are_bound c.units_are_derived.ensures
