use Rattle.std.proofs.Common.{List}
use Rattle.text_edits.specs.Files.{PlainFile, plain_files}
use Rattle.project_file.specs.View.{project_view}
use Rattle.project_store.specs.Reads.{names_of, IsTooLong, HasAbsent}
use Rattle.command_projects.specs.Projects.{WithFiles}
use Rattle.command_projects.proofs.Reading.{came_with_files, came_before, comes_to_long, unread_file, refusal_came}
use Rattle.command_run.specs.Run.{input_names, OfInputs, OfFiles}
use Rattle.command_run.specs.Steps.{run_of}
use Rattle.command_run.proofs.product.with_files.Goals as goal

pub returns-in-Ok-clause-came : goal.returns-in-Ok-clause-came
returns-in-Ok-clause-came g c =
    let s = g.S.Store.state c.args.store.now in
    let q = run_of c.args.query.now in
    let project = project_view c.args.project.now in
    let sources = plain_files c.in-Ok.files in
    came_with_files s (names_of project) (λ sources. WithFiles (input_names q.input) (OfInputs q project sources)) sources c.with_input.result c.in-Ok.ensures.files
    (came_before s (g.S.Store.state c.read_files.new.store) (WithFiles (input_names q.input) (OfInputs q project sources)) c.with_input.result c.in-Ok.ensures.kept (g.met.S.Store.room_is_told c.args.store.now) c.with_input.ensures.came)

pub returns-in-Err-clause-came : goal.returns-in-Err-clause-came
returns-in-Err-clause-came g c =
    let s = g.S.Store.state c.args.store.now in
    let q = run_of c.args.query.now in
    let project = project_view c.args.project.now in
    let names = names_of project in
    let Then = λ (sources : List PlainFile). WithFiles (input_names q.input) (OfInputs q project sources) in
    refusal_came (OfFiles q project) s (IsTooLong s names) (HasAbsent s names) (comes_to_long s names Then) (unread_file s names Then) c.in-Err.error c.without_project.result c.in-Err.ensures.files c.without_project.ensures
