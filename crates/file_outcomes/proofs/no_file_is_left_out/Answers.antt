use Rattle.file_outcomes.proofs.Faults.{none_left_out}
use Rattle.file_outcomes.proofs.no_file_is_left_out.Goals as goal

pub returns : goal.returns
returns c = none_left_out
