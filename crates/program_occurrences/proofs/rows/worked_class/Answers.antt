use Rattle.program_occurrences.proofs.ClassByHand.{one_class}
use Rattle.program_occurrences.proofs.rows.worked_class.Goals as goal

pub returns : goal.returns
returns c = one_class
