use Rattle.text_edits.specs.Files.{plain_files}
use Rattle.project_file.specs.View.{project_view}
use Rattle.project_store.specs.Reads.{names_of, IsTooLong, HasAbsent}
use Rattle.command_promises.proofs.Causes.{said_at_once}
use Rattle.command_projects.proofs.Reading.{came_with_files, comes_to_long, unread_file, refusal_came}
use Rattle.command_check.specs.Check.{OfProducts, OfProject}
use Rattle.command_check.proofs.products.in_project.Goals as goal

pub returns-in-Ok-clause-came : goal.returns-in-Ok-clause-came
returns-in-Ok-clause-came g c =
    let s = g.S.Store.state c.args.store.now in
    let project = project_view c.args.project.now in
    let sources = plain_files c.in-Ok.files in
    came_with_files s (names_of project) (OfProducts project) sources c.of_products.result c.in-Ok.ensures.files
    (said_at_once (OfProducts project sources) s c.of_products.result c.of_products.ensures)

pub returns-in-Err-clause-came : goal.returns-in-Err-clause-came
returns-in-Err-clause-came g c =
    let s = g.S.Store.state c.args.store.now in
    let project = project_view c.args.project.now in
    let names = names_of project in
    refusal_came (OfProject project) s (IsTooLong s names) (HasAbsent s names) (comes_to_long s names (OfProducts project)) (unread_file s names (OfProducts project)) c.in-Err.error c.without_project.result c.in-Err.ensures.files c.without_project.ensures
