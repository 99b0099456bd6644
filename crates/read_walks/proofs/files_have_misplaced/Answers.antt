use Rattle.read_walks.proofs.Sources.{files-have-misplaced}
use Rattle.read_walks.proofs.files_have_misplaced.Goals as goal

pub returns : goal.returns
returns c = files-have-misplaced
