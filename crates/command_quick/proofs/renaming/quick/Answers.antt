use Rattle.std.proofs.Common.{inl, inr, Ok, ap, map}
use Rattle.std.specs.String.{string_bytes}
use Rattle.command_promises.specs.Courses.{says}
use Rattle.command_promises.specs.Commands.{CourseFor}
use Rattle.command_promises.proofs.Answering.{came_by}
use Rattle.command_promises.proofs.Causes.{said_at_once}
use Rattle.command_quick.specs.Quick as spec
use Rattle.command_quick.specs.Steps.{asked}
use Rattle.command_quick.proofs.NewNames.{new_name_is_name}
use Rattle.command_quick.proofs.renaming.quick.Goals as goal

pub of_file-requires : goal.of_file-requires
of_file-requires g c = new_name_is_name (asked c.in-Some.renaming).new c.in-Some.ensures.good.new

pub returns-in-Some-clause-came : goal.returns-in-Some-clause-came
returns-in-Some-clause-came g c =
    let further = map string_bytes c.args.words.now in
    let r = asked c.in-Some.renaming in
    came_by (spec.Does r) (CourseFor spec.quick further) (g.S.Store.state c.args.store.now) c.of_file.result (λ files deed h. inl (r, c.in-Some.ensures, h)) c.of_file.ensures.came

pub returns-in_ok-said-in-None-clause-came : goal.returns-in_ok-said-in-None-clause-came
returns-in_ok-said-in-None-clause-came g c =
    said_at_once (CourseFor spec.quick (map string_bytes c.args.words.now)) (g.S.Store.state c.args.store.now) (Ok c.in_ok-said-in-None.said)
    (inr (c.in-None.ensures, ap (λ x. says x) c.in_ok-said-in-None.ensures))
