use Rattle.project_file.specs.View.{project_view}
use Rattle.project_store.specs.States.{IsAbsent}
use Rattle.project_store.specs.Reads.{HasFault}
use Rattle.command_projects.proofs.Reading.{comes_to_fault, unread_project, came_with_project, came_before, refusal_came}
use Rattle.command_check.specs.Check.{OfProject, Does}
use Rattle.command_check.proofs.products.of_file.Goals as goal

pub returns-in-Ok-clause-came : goal.returns-in-Ok-clause-came
returns-in-Ok-clause-came g c =
    let s = g.S.Store.state c.args.store.now in
    let project = project_view c.in-Ok.project in
    came_with_project s c.args.name.now OfProject project c.in_project.result c.in-Ok.ensures.project
    (came_before s (g.S.Store.state c.read_project.new.store) (OfProject project) c.in_project.result c.in-Ok.ensures.kept (g.met.S.Store.room_is_told c.args.store.now) c.in_project.ensures.came)

pub returns-in-Err-clause-came : goal.returns-in-Err-clause-came
returns-in-Err-clause-came g c =
    let s = g.S.Store.state c.args.store.now in
    let name = c.args.name.now in
    refusal_came (Does name) s (HasFault s name) (IsAbsent s name) (comes_to_fault s name OfProject) (unread_project s name OfProject) c.in-Err.error c.without_project.result c.in-Err.ensures.project c.without_project.ensures
