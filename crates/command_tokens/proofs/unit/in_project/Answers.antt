use Rattle.std.proofs.Common.{Ok, ap, inr}
use Rattle.project_file.specs.View.{project_view}
use Rattle.project_store.specs.Reads.{names_of}
use Rattle.command_promises.specs.Courses.{says}
use Rattle.command_promises.proofs.Causes.{said_at_once}
use Rattle.command_projects.specs.Projects.{WithFiles}
use Rattle.command_projects.proofs.Reading.{came_with_fit}
use Rattle.command_tokens.specs.Steps.{query_of, unit_of, IsChoice}
use Rattle.command_tokens.specs.Tokens.{NumberedUnit, FitsProject, OfUnit, OfProject}
use Rattle.command_tokens.proofs.unit.in_project.Goals as goal

pub returns-in-Ok-Some-clause-came : goal.returns-in-Ok-Some-clause-came
returns-in-Ok-Some-clause-came g c =
    let q = query_of c.args.query.now in
    let project = project_view c.args.project.now in
    let choice = c.in-Ok-Some.choice in
    let chosen : IsChoice q project choice = rw c.in-Ok-Some.field-0-is at c.in-Ok-Some.ensures in
    came_with_fit (FitsProject q project) (λ asked. WithFiles (names_of project) (OfUnit q project asked)) (g.S.Store.state c.args.store.now) (unit_of choice) c.with_files.result chosen.fits c.with_files.ensures.came

pub returns-in_ok-said-in-Ok-None-clause-came : goal.returns-in_ok-said-in-Ok-None-clause-came
returns-in_ok-said-in-Ok-None-clause-came g c =
    let q = query_of c.args.query.now in
    let project = project_view c.args.project.now in
    let none : (asked : NumberedUnit) → FitsProject q project asked → ⊥ = rw c.in-Ok-None.field-0-is at c.in-Ok-None.ensures in
    said_at_once (OfProject q project) (g.S.Store.state c.args.store.now) (Ok c.in_ok-said-in-Ok-None.said) (inr (none, ap (λ x. says x) c.in_ok-said-in-Ok-None.ensures))
