use Rattle.program_occurrences.proofs.Bound.{occurrences_are_bound}
use Rattle.program_occurrences.proofs.laws.occurrences_are_bound.Goals as goal

pub returns : goal.returns
returns c = occurrences_are_bound c.units_are_derived.ensures c.judgements_bind_alike.ensures
