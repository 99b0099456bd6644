use Rattle.moved_names.proofs.Alike.{moves-dont-name}
use Rattle.moved_names.proofs.moves_dont_name.Goals as goal

pub returns : goal.returns
returns c = moves-dont-name
