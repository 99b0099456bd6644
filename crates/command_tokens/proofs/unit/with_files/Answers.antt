use Rattle.text_edits.specs.Files.{plain_files}
use Rattle.project_file.specs.View.{project_view}
use Rattle.project_store.specs.Reads.{names_of, IsTooLong, HasAbsent}
use Rattle.command_promises.proofs.Causes.{said_at_once}
use Rattle.command_projects.specs.Projects.{WithFiles}
use Rattle.command_projects.proofs.Reading.{came_with_files, comes_to_long, unread_file, refusal_came}
use Rattle.command_tokens.specs.Steps.{query_of, unit_of}
use Rattle.command_tokens.specs.Tokens.{OfUnit}
use Rattle.command_tokens.proofs.unit.with_files.Goals as goal

pub returns-in-Ok-clause-came : goal.returns-in-Ok-clause-came
returns-in-Ok-clause-came g c =
    let s = g.S.Store.state c.args.store.now in
    let project = project_view c.args.project.now in
    let Then = OfUnit (query_of c.args.query.now) project (unit_of c.args.choice.now) in
    let files = plain_files c.in-Ok.files in
    came_with_files s (names_of project) Then files c.of_unit.result c.in-Ok.ensures.files (said_at_once (Then files) s c.of_unit.result c.of_unit.ensures)

pub returns-in-Err-clause-came : goal.returns-in-Err-clause-came
returns-in-Err-clause-came g c =
    let s = g.S.Store.state c.args.store.now in
    let names = names_of (project_view c.args.project.now) in
    let Then = OfUnit (query_of c.args.query.now) (project_view c.args.project.now) (unit_of c.args.choice.now) in
    refusal_came (WithFiles names Then) s (IsTooLong s names) (HasAbsent s names) (comes_to_long s names Then) (unread_file s names Then) c.in-Err.error c.without_project.result c.in-Err.ensures.files c.without_project.ensures
