use Rattle.read_walks.proofs.Leading.{walks-are-one}
use Rattle.read_walks.proofs.walks_are_one.Goals as goal

pub returns : goal.returns
returns c = walks-are-one
