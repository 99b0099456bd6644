use Rattle.declaration_readings.proofs.Judged.{members_read}
use Rattle.declaration_readings.proofs.members_are_read.Goals as goal

pub returns : goal.returns
returns c = members_read
