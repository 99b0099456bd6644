use Rattle.project_file.specs.View.{project_view}
use Rattle.project_store.specs.States.{IsAbsent}
use Rattle.project_store.specs.Reads.{HasFault}
use Rattle.command_projects.proofs.Reading.{comes_to_fault, unread_project, came_with_project, came_before, refusal_came}
use Rattle.command_tokens.specs.Steps.{query_of}
use Rattle.command_tokens.specs.Tokens.{OfProject, Does}
use Rattle.command_tokens.proofs.unit.of_query.Goals as goal

pub returns-in-Ok-clause-came : goal.returns-in-Ok-clause-came
returns-in-Ok-clause-came g c =
    let s = g.S.Store.state c.args.store.now in
    let q = query_of c.args.query.now in
    let project = project_view c.in-Ok.project in
    came_with_project s q.project (OfProject q) project c.in_project.result c.in-Ok.ensures.project
    (came_before s (g.S.Store.state c.read_project.new.store) (OfProject q project) c.in_project.result c.in-Ok.ensures.kept (g.met.S.Store.room_is_told c.args.store.now) c.in_project.ensures.came)

pub returns-in-Err-clause-came : goal.returns-in-Err-clause-came
returns-in-Err-clause-came g c =
    let s = g.S.Store.state c.args.store.now in
    let q = query_of c.args.query.now in
    let name = q.project in
    refusal_came (Does q) s (HasFault s name) (IsAbsent s name) (comes_to_fault s name (OfProject q)) (unread_project s name (OfProject q)) c.in-Err.error c.without_project.result c.in-Err.ensures.project c.without_project.ensures
