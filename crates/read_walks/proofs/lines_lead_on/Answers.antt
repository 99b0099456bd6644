use Rattle.read_walks.proofs.Leading.{lines-lead-on}
use Rattle.read_walks.proofs.lines_lead_on.Goals as goal

pub returns : goal.returns
returns c = lines-lead-on
