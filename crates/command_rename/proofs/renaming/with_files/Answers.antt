use Rattle.text_edits.specs.Files.{plain_files}
use Rattle.project_file.specs.View.{project_view}
use Rattle.project_store.specs.Reads.{names_of, IsTooLong, HasAbsent}
use Rattle.command_promises.proofs.Causes.{said_at_once}
use Rattle.command_projects.specs.Projects.{WithFiles}
use Rattle.command_projects.proofs.Reading.{came_with_files, comes_to_long, unread_file, refusal_came}
use Rattle.rename_words.specs.Steps.{query_of}
use Rattle.command_rename.specs.Steps.{OfSources}
use Rattle.command_rename.proofs.renaming.with_files.Goals as goal

pub returns-in-Ok-clause-came : goal.returns-in-Ok-clause-came
returns-in-Ok-clause-came g c =
    let s = g.S.Store.state c.args.store.now in
    let Then = OfSources (query_of c.args.query.now) c.args.text.now c.args.number in
    let names = names_of (project_view c.args.text.now.project) in
    let sources = plain_files c.in-Ok.files in
    came_with_files s names Then sources c.of_files.result c.in-Ok.ensures.files (said_at_once (Then sources) s c.of_files.result c.of_files.ensures)

pub returns-in-Err-clause-came : goal.returns-in-Err-clause-came
returns-in-Err-clause-came g c =
    let s = g.S.Store.state c.args.store.now in
    let Then = OfSources (query_of c.args.query.now) c.args.text.now c.args.number in
    let names = names_of (project_view c.args.text.now.project) in
    refusal_came (WithFiles names Then) s (IsTooLong s names) (HasAbsent s names) (comes_to_long s names Then) (unread_file s names Then) c.in-Err.error c.without_project.result
    c.in-Err.ensures.files c.without_project.ensures
