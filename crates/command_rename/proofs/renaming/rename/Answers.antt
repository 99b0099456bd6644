use Rattle.std.proofs.Common.{inl, inr, ap, map, Ok}
use Rattle.std.specs.String.{string_bytes}
use Rattle.command_promises.specs.Courses.{says}
use Rattle.command_promises.specs.Commands.{CourseFor}
use Rattle.command_promises.proofs.Answering.{came_by}
use Rattle.command_promises.proofs.Causes.{said_at_once}
use Rattle.project_refactorings.specs.Refactorings.{Does}
use Rattle.rename_words.specs.Words.{RenameQuery, Asks}
use Rattle.rename_words.specs.Steps.{query_of}
use Rattle.command_rename.specs.Rename as spec
use Rattle.command_rename.proofs.renaming.rename.Goals as goal

pub returns-in-Some-clause-came : goal.returns-in-Some-clause-came
returns-in-Some-clause-came g c =
    let further = map string_bytes c.args.words.now in
    let q = query_of c.in-Some.query in
    let asks : Asks further q = rw c.in-Some.is at c.in_ok-query.ensures in
    came_by (Does spec.renaming q) (CourseFor spec.rename further) (g.S.Store.state c.args.store.now) c.of_query.result (λ files deed h. inl (q, asks, h)) c.of_query.ensures.came

pub returns-in_ok-said-in-None-clause-came : goal.returns-in_ok-said-in-None-clause-came
returns-in_ok-said-in-None-clause-came g c =
    let further = map string_bytes c.args.words.now in
    let none : (q : RenameQuery) → Asks further q → ⊥ = rw c.in-None.is at c.in_ok-query.ensures in
    said_at_once (CourseFor spec.rename further) (g.S.Store.state c.args.store.now) (Ok c.in_ok-said-in-None.said) (inr (none, ap (λ x. says x) c.in_ok-said-in-None.ensures))
