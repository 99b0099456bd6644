use Rattle.command_projects.proofs.Decided.{laws_of}
use Rattle.project_refactorings.proofs.Decided.{refactoring_decided}
use Rattle.project_refactorings.proofs.laws.refactorings_are_decided.Goals as goal

pub returns : goal.returns
returns g c =
    refactoring_decided g.R.Refactoring.command
    (laws_of c.projects_have_no_fault.ensures c.first_fault_is_one.ensures c.projects_are_alike.ensures)
