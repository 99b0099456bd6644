use Rattle.declaration_readings.proofs.Judged.{locals_read}
use Rattle.declaration_readings.proofs.locals_are_read.Goals as goal

pub returns : goal.returns
returns c = locals_read
