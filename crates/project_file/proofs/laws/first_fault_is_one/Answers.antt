use Rattle.project_file.proofs.OneFault.{one_fault}
use Rattle.project_file.proofs.laws.first_fault_is_one.Goals as goal

pub returns : goal.returns
returns c = one_fault
