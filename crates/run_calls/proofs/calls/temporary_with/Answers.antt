use Rattle.std.proofs.Common.{[], cond, ap, ◌∙◌, Some, None, refl}
use Rattle.c_types.specs.Types.{plain_type}
use Rattle.core_meaning.specs.Values.{at}
use Rattle.core_cells.specs.Forms.{plain_value}
use Rattle.core_memory.specs.MemoryForms.{plain_memory}
use Rattle.interp_actions.specs.Actions.{place_operand}
use Rattle.interp_actions.specs.StackLaws.{fails_behind}
use Rattle.run_machine.specs.declared.machine.Machine.{Machine}
use Rattle.run_machine.specs.Machines.{given_outcome, temporary_outcome}
use Rattle.run_machine.proofs.MachineLemmas.{comes_given, comes_same}
use Rattle.run_machine.proofs.PositionLemmas.{temporary_known, temporary_done}
use Rattle.run_calls.proofs.calls.temporary_with.Goals as goal

pub returns-in_ok-flow : goal.returns-in_ok-flow
returns-in_ok-flow c =
    let m = c.args.machine.now in
    let t = plain_type c.args.ty.now in
    let v = plain_value c.args.value in
    let object = c.in_ok-object.object in
    let held = c.write_whole.new.memory in
    let middle : Machine = record m { memory = held; temporaries = c.push.new.self } in
    let o = Some (place_operand (at object [])) in
    comes_same c.in_ok-flow.flow (given_outcome o middle) (temporary_outcome t v m) (record middle { control = c.put_object.new.control })
    (comes_given c.in_ok-flow.flow o middle c.put_object.new.control c.in_ok-flow.ensures)
    (temporary_done m t v object c.make.new.self held c.push.new.self.items c.make.ensures.structs c.in_ok-object.ensures.made c.in_ok-object.ensures.number c.write_whole.ensures.structs c.in_ok-push.ensures.items
    (c.in_ok-done.ensures.written ∙ ap (λ b. cond b (Some (plain_memory held)) None) c.if-done.true))

pub returns-else-done : goal.returns-else-done
returns-else-done c =
    let m = c.args.machine.now in
    let t = plain_type c.args.ty.now in
    let v = plain_value c.args.value in
    temporary_known m t v c.in_ok-object.object c.make.new.self None c.make.ensures.structs c.in_ok-object.ensures.made c.in_ok-object.ensures.number
    (c.in_ok-done.ensures.written ∙ ap (λ b. cond b (Some (plain_memory c.write_whole.new.memory)) None) c.if-done.false)
    ∙ fails_behind m.output.items _ refl
