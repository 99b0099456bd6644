use Rattle.std.proofs.Common.{map, ap, ◌∙◌}
use Rattle.core_meaning.specs.Plain.{plain_part, path_from}
use Rattle.core_cells.specs.Forms.{plain_value}
use Rattle.interp_actions.specs.declared.actions.Operand.TheVariants as operand
use Rattle.interp_actions.specs.Actions.{write_part_action}
use Rattle.interp_actions.specs.Forms.{plain_initialiser}
use Rattle.interp_actions.specs.StackLaws.{fails_behind}
use Rattle.run_machine.specs.declared.machine.Machine.{Machine}
use Rattle.run_machine.specs.Machines.{written_outcome}
use Rattle.run_machine.proofs.MachineLemmas.{come_is, operand_taken}
use Rattle.run_statements.proofs.declarations.write_part.Goals as goal

pub returns-in-None : goal.returns-in-None
returns-in-None c = fails_behind _ _ (c.in-None.ensures.none _ _)

pub returns-in-Some : goal.returns-in-Some
returns-in-Some c =
    let m = c.args.machine.now in
    let middle : Machine = record m { control = c.take_value.new.self } in
    let x = plain_initialiser c.args.target in
    let left = map plain_part c.args.rest.now in
    let action = write_part_action x (plain_part c.args.part.now).path left in
    let v = plain_value c.in-Some.value in
    come_is c.put_part.result (written_outcome x (path_from c.deref.result.now) left v middle) action m c.put_part.new.machine c.put_part.ensures
    (ap (λ path. written_outcome x (path_from path) left v middle) c.deref.ensures.value
    ∙ operand_taken m c.take_value.new.self (operand.Value c.in-Some.value) action c.take_value.ensures.actions c.in-Some.ensures.some)
