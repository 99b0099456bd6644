use Rattle.unit_outcomes.proofs.SameReads.{reads-are-one}
use Rattle.unit_outcomes.proofs.reads_are_one.Goals as goal

pub returns : goal.returns
returns c = reads-are-one c.lines_are_one.ensures
