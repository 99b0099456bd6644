use Rattle.command_projects.proofs.Decided.{laws_of}
use Rattle.command_check.proofs.Decided.{decided}
use Rattle.command_check.proofs.laws.check_is_decided.Goals as goal

pub returns : goal.returns
returns c = decided (laws_of c.projects_have_no_fault.ensures c.first_fault_is_one.ensures c.projects_are_alike.ensures) c.programs_are_one.ensures
