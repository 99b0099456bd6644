use Rattle.std.proofs.Common.{map, ap, refl}
use Rattle.c_types.specs.Types.{plain_type}
use Rattle.core_meaning.specs.Plain.{plain_items, plain_part}
use Rattle.interp_actions.specs.Actions.{PlainInitialiser, initialise_action}
use Rattle.interp_actions.specs.Forms.{plain_actions}
use Rattle.run_machine.specs.Machines.{declared_outcome}
use Rattle.run_machine.proofs.MachineLemmas.{do_come}
use Rattle.run_machine.proofs.PositionLemmas.{local_begins}
use Rattle.run_statements.proofs.declarations.local_of.Goals as goal

pub returns : goal.returns
returns c =
    let old = c.args.machine.now in
    let middle = c.declare.new.machine in
    let t = plain_type c.args.ty.now in
    let parts = map plain_part c.args.parts.now in
    let x : PlainInitialiser = record { object = c.in_ok-object.object; ty = t; parts = parts } in
    do_come c.initialise.result (declared_outcome c.args.slot t parts (plain_items c.args.rest.now) old) (initialise_action x)
    (record middle { control = (record middle.control { actions = c.push.new.stack }) }) c.initialise.new.machine c.initialise.ensures
    (local_begins old middle (record middle.control { actions = c.push.new.stack }) c.args.slot x c.args.rest.now c.in_ok-object.ensures.declared c.in_ok-object.ensures.number
    (ap (plain_actions middle.frame.types.now middle.frame.slots.items) c.in_ok-push.ensures) refl)
