use Rattle.command_outcomes.proofs.Admit.{admit_ends}
use Rattle.command_outcomes.proofs.admit_concludes.Goals as goal

pub returns : goal.returns
returns c = admit_ends c.no_file_is_left_out.ensures
