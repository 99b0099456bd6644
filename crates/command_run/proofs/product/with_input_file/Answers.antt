use Rattle.std.proofs.Common.{[], ◌∷◌, subst}
use Rattle.text_edits.specs.Files.{plain_file, plain_files}
use Rattle.project_file.specs.View.{project_view}
use Rattle.project_store.specs.States.{IsAbsent}
use Rattle.project_store.specs.Reads.{IsLong}
use Rattle.command_promises.specs.Sayings.{SaysOrEnds}
use Rattle.command_promises.proofs.Causes.{said_at_once}
use Rattle.command_projects.specs.Projects.{WithFiles}
use Rattle.command_projects.proofs.Reading.{came_with_files, comes_to_long, unread_file, file_alone, long_alone, absent_alone, refusal_came}
use Rattle.command_run.specs.Run.{OfConfiguration, OfInputs}
use Rattle.command_run.specs.Steps.{run_of}
use Rattle.command_run.proofs.product.with_input_file.Goals as goal

pub returns-in-Ok-clause-came : goal.returns-in-Ok-clause-came
returns-in-Ok-clause-came g c =
    let s = g.S.Store.state c.args.store.now in
    let name = c.args.name.now in
    let q = run_of c.args.query.now in
    let project = project_view c.args.project.now in
    let sources = plain_files c.args.files.now in
    let file = plain_file c.in-Ok.file in
    let Then = OfInputs q project sources in
    came_with_files s (name ∷ []) Then (file ∷ []) c.of_configuration.result (file_alone s name file c.in-Ok.ensures.source)
    (said_at_once (Then (file ∷ [])) s c.of_configuration.result
    (subst (λ input. SaysOrEnds (OfConfiguration q project sources input) c.of_configuration.result) c.as_slice.ensures.value c.of_configuration.ensures))

pub returns-in-Err-clause-came : goal.returns-in-Err-clause-came
returns-in-Err-clause-came g c =
    let s = g.S.Store.state c.args.store.now in
    let name = c.args.name.now in
    let Then = OfInputs (run_of c.args.query.now) (project_view c.args.project.now) (plain_files c.args.files.now) in
    refusal_came (WithFiles (name ∷ []) Then) s (IsLong s name) (IsAbsent s name) (λ fault h. comes_to_long s (name ∷ []) Then fault (long_alone s name fault h)) (λ absent. unread_file s (name ∷ []) Then (absent_alone s name absent)) c.in-Err.error c.without_project.result c.in-Err.ensures.source c.without_project.ensures
