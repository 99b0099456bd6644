use Rattle.declaration_readings.proofs.Judged.{names_read}
use Rattle.declaration_readings.proofs.names_are_read.Goals as goal

pub returns : goal.returns
returns c = names_read
