use Rattle.unit_numbers.proofs.Many.{units_leave_as_many_structs}
use Rattle.unit_numbers.proofs.units_leave_as_many_structs.Goals as goal

pub returns : goal.returns
returns c = units_leave_as_many_structs c.units_are_derived.ensures c.units_name_parameters.ensures c.sizes_bind_nothing.ensures
