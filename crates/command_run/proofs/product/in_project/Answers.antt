use Rattle.std.proofs.Common.{◌≡◌, true, Ok, ap, inr}
use Rattle.project_file.specs.View.{project_view}
use Rattle.command_promises.specs.Courses.{says}
use Rattle.command_promises.proofs.Causes.{said_at_once}
use Rattle.command_projects.specs.Products.{are_features}
use Rattle.command_projects.proofs.Reading.{came_with_fit}
use Rattle.command_run.specs.Run.{HasFeatures, OfFiles, OfProject}
use Rattle.command_run.specs.Steps.{run_of, IsConfiguration}
use Rattle.command_run.proofs.product.in_project.Goals as goal

pub returns-in-Some-clause-came : goal.returns-in-Some-clause-came
returns-in-Some-clause-came g c =
    let q = run_of c.args.query.now in
    let project = project_view c.args.project.now in
    let chosen : IsConfiguration q project c.in-Some.c = rw c.in-Some.is at c.in_ok-c.ensures in
    came_with_fit (HasFeatures q project) (λ fit. OfFiles q project) (g.S.Store.state c.args.store.now) tt c.with_files.result chosen.fits c.with_files.ensures.came

pub returns-in_ok-said-in-None-clause-came : goal.returns-in_ok-said-in-None-clause-came
returns-in_ok-said-in-None-clause-came g c =
    let q = run_of c.args.query.now in
    let project = project_view c.args.project.now in
    let none : are_features project.features q.names ≡ true → ⊥ = rw c.in-None.is at c.in_ok-c.ensures in
    said_at_once (OfProject q project) (g.S.Store.state c.args.store.now) (Ok c.in_ok-said-in-None.said) (inr (λ fit h. none h, ap (λ x. says x) c.in_ok-said-in-None.ensures))
