use Rattle.unit_files.proofs.Readings.{sources-are_walked}
use Rattle.unit_files.proofs.laws.sources_are_walked.Goals as goal

pub returns : goal.returns
returns c = sources-are_walked c.lines_are_one.ensures c.parts_are_walked.ensures
