use Rattle.core_meaning.proofs.Growth.{runs_grow_lem}
use Rattle.core_meaning.proofs.laws.runs_grow.Goals as goal

pub returns : goal.returns
returns c = runs_grow_lem
