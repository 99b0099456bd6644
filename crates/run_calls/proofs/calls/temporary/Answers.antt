use Rattle.c_types.specs.Types.{plain_type}
use Rattle.core_cells.specs.Forms.{plain_value}
use Rattle.interp_actions.specs.declared.actions.Operand.TheVariants as operand
use Rattle.interp_actions.specs.Actions.{temporary_action}
use Rattle.interp_actions.specs.StackLaws.{fails_behind}
use Rattle.run_machine.specs.declared.machine.Machine.{Machine}
use Rattle.run_machine.specs.Machines.{temporary_outcome}
use Rattle.run_machine.proofs.MachineLemmas.{come_is, operand_taken}
use Rattle.run_calls.proofs.calls.temporary.Goals as goal

pub returns-in-None : goal.returns-in-None
returns-in-None c = fails_behind _ _ (c.in-None.ensures.none _ _)

pub returns-in-Some : goal.returns-in-Some
returns-in-Some c =
    let m = c.args.machine.now in
    let middle : Machine = record m { control = c.take_value.new.self } in
    let t = plain_type c.args.ty.now in
    come_is c.temporary_with.result (temporary_outcome t (plain_value c.in-Some.value) middle) (temporary_action t) m c.temporary_with.new.machine c.temporary_with.ensures
    (operand_taken m c.take_value.new.self (operand.Value c.in-Some.value) (temporary_action t) c.take_value.ensures.actions c.in-Some.ensures.some)
