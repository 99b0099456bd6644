use Rattle.std.proofs.Common.{◌≡◌, ◌<◌, length, get_or, refl, ap, ◌∙◌, arith}
use Rattle.std.proofs.lemmas.Option.{slice_get-get_or}
use Rattle.c_types.specs.Types.{plain_type}
use Rattle.interp_actions.specs.Forms.{held_in}
use Rattle.run_machine.proofs.PositionLemmas.{declared_position}
use Rattle.run_machine.proofs.slots.declare.Goals as goal

pub returns-clause-declared : goal.returns-clause-declared
returns-clause-declared c =
    let m = c.args.machine.now in
    let slots = m.frame.slots.items in
    let i = c.args.slot in
    let before = c.held_at-before.result in
    let within : i < length slots = omega (arith, m.frame.slots.ok.0) in
    let held : before ≡ get_or slots i before = c.held_at-before.ensures ∙ ap held_in (slice_get-get_or slots i before within) in
    declared_position m (record m { memory = c.make.new.self; frame = c.hold.new.frame; control = (record m.control { actions = c.push.new.stack }) }) i c.in_ok-object.object (plain_type c.args.ty.now) before
    within held c.in_ok-object.ensures.number refl c.make.ensures.structs c.in_ok-object.ensures.made
    refl refl refl c.hold.ensures.bound c.hold.ensures.types c.hold.ensures.slots c.in_ok-push.ensures refl
