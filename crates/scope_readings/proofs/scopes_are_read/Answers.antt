use Rattle.scope_readings.proofs.Units.{scopes_are_read_lem}
use Rattle.scope_readings.proofs.scopes_are_read.Goals as goal

pub returns : goal.returns
returns c = scopes_are_read_lem c.units_are_derived.ensures
