use Rattle.std.proofs.Common.{cond, map, ap, ◌∙◌, Some, None}
use Rattle.core_meaning.specs.Plain.{plain_part, path_from}
use Rattle.core_meaning.specs.Memory.{written_at}
use Rattle.core_meaning.specs.Values.{at}
use Rattle.core_cells.specs.Forms.{plain_value}
use Rattle.core_memory.specs.MemoryForms.{plain_memory, plain_object, structs_of}
use Rattle.interp_actions.specs.Actions.{parts_action}
use Rattle.interp_actions.specs.Forms.{plain_initialiser}
use Rattle.run_machine.specs.declared.machine.Machine.{Machine}
use Rattle.run_machine.specs.Machines.{written_outcome}
use Rattle.run_machine.proofs.MachineLemmas.{does_comes}
use Rattle.run_machine.proofs.ObjectLemmas.{written_within, within_some}
use Rattle.run_machine.proofs.PositionLemmas.{part_done, part_fails}
use Rattle.run_statements.proofs.declarations.put_part.Goals as goal

pub parts_left-requires : goal.parts_left-requires
parts_left-requires c =
    let m = c.args.machine.now in
    let k = c.args.target.object in
    let path = path_from c.args.path.now in
    let v = plain_value c.args.value in
    let held = c.write_along.new.memory in
    within_some k (written_at (structs_of m.memory) (plain_memory m.memory) (at k path) v) (plain_memory held)
    (written_within (structs_of m.memory) (map plain_object m.memory.objects.items) k path v)
    (c.in_ok-done.ensures.written ∙ ap (λ b. cond b (Some (plain_memory held)) None) c.if-done.true)

pub returns-in_ok-flow : goal.returns-in_ok-flow
returns-in_ok-flow c =
    let m = c.args.machine.now in
    let x = plain_initialiser c.args.target in
    let path = path_from c.args.path.now in
    let v = plain_value c.args.value in
    let left = map plain_part c.args.rest.now in
    let held = c.write_along.new.memory in
    let middle : Machine = record m { memory = held } in
    does_comes c.in_ok-flow.flow (written_outcome x path left v m) (parts_action x left) middle c.parts_left.new.machine c.in_ok-flow.ensures
    (part_done m held x path left v c.write_along.ensures.structs
    (c.in_ok-done.ensures.written ∙ ap (λ b. cond b (Some (plain_memory held)) None) c.if-done.true))

pub returns-else-done : goal.returns-else-done
returns-else-done c =
    let m = c.args.machine.now in
    part_fails m (plain_initialiser c.args.target) (path_from c.args.path.now) (map plain_part c.args.rest.now) (plain_value c.args.value)
    (c.in_ok-done.ensures.written ∙ ap (λ b. cond b (Some (plain_memory c.write_along.new.memory)) None) c.if-done.false)
