use Rattle.std.proofs.Common.{inr, ap, ℕ, Ok}
use Rattle.project_file.specs.View.{project_view}
use Rattle.project_store.specs.Reads.{names_of}
use Rattle.command_promises.specs.Courses.{says}
use Rattle.command_promises.proofs.Causes.{said_at_once}
use Rattle.command_projects.specs.Projects.{WithFiles}
use Rattle.command_projects.proofs.Reading.{came_with_fit}
use Rattle.rename_words.specs.Fits.{Fits}
use Rattle.rename_words.specs.Steps.{query_of}
use Rattle.command_rename.specs.Steps.{OfText, OfSources}
use Rattle.command_rename.proofs.renaming.in_project.Goals as goal

pub with_files-requires-clause-fits : goal.with_files-requires-clause-fits
with_files-requires-clause-fits g c = rw c.in-Some.is at c.fits.ensures

pub returns-in-Some-clause-came : goal.returns-in-Some-clause-came
returns-in-Some-clause-came g c =
    let q = query_of c.args.query.now in
    let text = c.args.text.now in
    let project = project_view text.project in
    let fits : Fits q project c.in-Some.number = rw c.in-Some.is at c.fits.ensures in
    came_with_fit (Fits q project) (λ file. WithFiles (names_of project) (OfSources q text file)) (g.S.Store.state c.args.store.now) c.in-Some.number c.with_files.result fits c.with_files.ensures.came

pub returns-in_ok-said-in-None-clause-came : goal.returns-in_ok-said-in-None-clause-came
returns-in_ok-said-in-None-clause-came g c =
    let q = query_of c.args.query.now in
    let text = c.args.text.now in
    let none : (file : ℕ) → Fits q (project_view text.project) file → ⊥ = rw c.in-None.is at c.fits.ensures in
    said_at_once (OfText q text) (g.S.Store.state c.args.store.now) (Ok c.in_ok-said-in-None.said) (inr (none, ap (λ x. says x) c.in_ok-said-in-None.ensures))
