use Rattle.renamings.proofs.RenameLemmas.{renamed-lines}
use Rattle.renamings.proofs.laws.lines_are_renamed.Goals as goal

pub returns : goal.returns
returns c = λ r number bytes lines good are names. renamed-lines r number bytes lines good are names
