use Rattle.read_walks.proofs.Walks.{reads-are_walked}
use Rattle.read_walks.proofs.reads_are_walked.Goals as goal

pub returns : goal.returns
returns c = reads-are_walked
