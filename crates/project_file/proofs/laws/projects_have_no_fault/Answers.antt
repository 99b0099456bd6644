use Rattle.project_file.proofs.Exclusion.{no_fault}
use Rattle.project_file.proofs.laws.projects_have_no_fault.Goals as goal

pub returns : goal.returns
returns c = no_fault
