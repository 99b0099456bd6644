use Rattle.core_meaning.proofs.Growth.{larger_bound_reaches_lem}
use Rattle.core_meaning.proofs.laws.a_larger_bound_reaches.Goals as goal

pub returns : goal.returns
returns c = larger_bound_reaches_lem
