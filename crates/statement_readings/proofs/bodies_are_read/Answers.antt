use Rattle.statement_readings.proofs.Statements.{bodies_read}
use Rattle.statement_readings.proofs.bodies_are_read.Goals as goal

pub returns : goal.returns
returns c = bodies_read
