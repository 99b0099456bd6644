use Rattle.cond_structs.proofs.InTurn.{read}
use Rattle.cond_structs.proofs.laws.declarations_are_read.Goals as goal

pub returns : goal.returns
returns c = λ number list each k. read number each k
