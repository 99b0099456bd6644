use Rattle.entity_numbers.proofs.Names.{units_name_parameters}
use Rattle.entity_numbers.proofs.units_name_parameters.Goals as goal

pub returns : goal.returns
returns c = units_name_parameters c.units_are_derived.ensures
