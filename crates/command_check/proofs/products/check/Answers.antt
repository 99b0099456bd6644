use Rattle.std.proofs.Common.{inl, map}
use Rattle.std.specs.String.{string_bytes}
use Rattle.command_promises.specs.Commands.{CourseFor}
use Rattle.command_promises.proofs.Answering.{came_by}
use Rattle.command_check.specs.Check as spec
use Rattle.command_check.proofs.products.check.Goals as goal

pub returns-in-Some-clause-came : goal.returns-in-Some-clause-came
returns-in-Some-clause-came g c =
    let further = map string_bytes c.args.words.now in
    let name = c.in-Some.name.now in
    came_by (spec.Does name) (CourseFor spec.check further) (g.S.Store.state c.args.store.now) c.of_file.result (λ files deed h. inl (name, c.in-Some.ensures, h)) c.of_file.ensures.came
