use Rattle.class_edits.proofs.Standing.{stand-apart}
use Rattle.class_edits.proofs.laws.listed_stand_apart.Goals as goal

pub returns : goal.returns
returns c = stand-apart c.lines_are_one.ensures
