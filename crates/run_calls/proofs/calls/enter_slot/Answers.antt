use Rattle.std.proofs.Common.{◌∷◌, add-one, cond, map, reverse, ap, ◌∙◌, Some, None, refl}
use Rattle.c_types.specs.Types.{plain_type}
use Rattle.core_meaning.specs.Plain.{plain_items}
use Rattle.core_cells.specs.Forms.{plain_value}
use Rattle.core_memory.specs.MemoryForms.{plain_memory}
use Rattle.interp_actions.specs.Actions.{enter_action}
use Rattle.interp_actions.specs.Forms.{plain_actions}
use Rattle.run_machine.specs.Machines.{position_of}
use Rattle.run_machine.proofs.PositionLemmas.{entered_done, entered_fails}
use Rattle.run_calls.proofs.calls.enter_slot.Goals as goal

pub returns-in_ok-push : goal.returns-in_ok-push
returns-in_ok-push c =
    let old = c.args.machine.now in
    let middle = c.declare.new.machine in
    let held = c.write_whole.new.memory in
    let vs = reverse (map plain_value c.args.values.items) in
    let body = plain_items c.args.body.now in
    entered_done old middle (record middle.control { actions = c.push.new.stack }) held c.args.slot c.in_ok-object.object (plain_type c.args.ty.now) (plain_value c.args.value) vs body
    c.in_ok-object.ensures.declared c.in_ok-object.ensures.number c.write_whole.ensures.structs
    (c.in_ok-done.ensures.written ∙ ap (λ b. cond b (Some (plain_memory held)) None) c.if-done.true)
    (ap (plain_actions middle.frame.types.now middle.frame.slots.items) c.in_ok-push.ensures
    ∙ ap (λ k. enter_action k vs body ∷ (position_of middle).actions) (add-one c.args.slot))
    refl

pub returns-else-done : goal.returns-else-done
returns-else-done c =
    let old = c.args.machine.now in
    let middle = c.declare.new.machine in
    entered_fails old middle c.args.slot c.in_ok-object.object (plain_type c.args.ty.now) (plain_value c.args.value) (reverse (map plain_value c.args.values.items)) (plain_items c.args.body.now)
    c.in_ok-object.ensures.declared c.in_ok-object.ensures.number
    (c.in_ok-done.ensures.written ∙ ap (λ b. cond b (Some (plain_memory c.write_whole.new.memory)) None) c.if-done.false)
