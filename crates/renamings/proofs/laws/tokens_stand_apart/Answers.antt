use Rattle.renamings.proofs.RenameLemmas.{tokens-apart}
use Rattle.renamings.proofs.laws.tokens_stand_apart.Goals as goal

pub returns : goal.returns
returns c = λ r number bytes lines good are names. tokens-apart r number bytes lines good are names
