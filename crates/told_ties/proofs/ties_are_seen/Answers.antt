use Rattle.told_ties.proofs.Seen.{ties_seen}
use Rattle.told_ties.proofs.ties_are_seen.Goals as goal

pub returns : goal.returns
returns c = ties_seen
