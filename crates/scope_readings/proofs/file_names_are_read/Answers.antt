use Rattle.scope_readings.proofs.Units.{file_names_are_read_lem}
use Rattle.scope_readings.proofs.file_names_are_read.Goals as goal

pub returns : goal.returns
returns c = file_names_are_read_lem c.units_are_derived.ensures
