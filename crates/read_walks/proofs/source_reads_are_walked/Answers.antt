use Rattle.read_walks.proofs.Sources.{source-reads-are_walked}
use Rattle.read_walks.proofs.source_reads_are_walked.Goals as goal

pub returns : goal.returns
returns c = source-reads-are_walked c.lines_are_one.ensures
