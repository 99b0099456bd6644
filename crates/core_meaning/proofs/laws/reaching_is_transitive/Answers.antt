use Rattle.core_meaning.proofs.Growth.{reaching_is_transitive_lem}
use Rattle.core_meaning.proofs.laws.reaching_is_transitive.Goals as goal

pub returns : goal.returns
returns c = reaching_is_transitive_lem
