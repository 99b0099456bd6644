use Rattle.core_meaning.proofs.Growth.{pieces_grow_lem}
use Rattle.core_meaning.proofs.laws.pieces_grow.Goals as goal

pub returns : goal.returns
returns c = pieces_grow_lem
