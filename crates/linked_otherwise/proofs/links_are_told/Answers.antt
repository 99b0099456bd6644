use Rattle.linked_otherwise.proofs.Units.{links-told}
use Rattle.linked_otherwise.proofs.links_are_told.Goals as goal

pub returns : goal.returns
returns c = links-told
