use Rattle.unit_files.proofs.Readings.{sources-break}
use Rattle.unit_files.proofs.laws.sources_break.Goals as goal

pub returns : goal.returns
returns c = sources-break c.lines_are_one.ensures c.files_break.ensures
