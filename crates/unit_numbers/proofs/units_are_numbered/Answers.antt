use Rattle.unit_numbers.proofs.Items.{units_are_numbered}
use Rattle.unit_numbers.proofs.units_are_numbered.Goals as goal

pub returns : goal.returns
returns c = units_are_numbered c.units_are_derived.ensures c.units_name_parameters.ensures c.sizes_bind_nothing.ensures
