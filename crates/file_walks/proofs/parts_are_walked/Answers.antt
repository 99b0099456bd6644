use Rattle.file_walks.proofs.Walks.{parts-are_walked}
use Rattle.file_walks.proofs.parts_are_walked.Goals as goal

pub returns : goal.returns
returns c = parts-are_walked
