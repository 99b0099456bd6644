use Rattle.std.proofs.Common.{◌∷◌, map, reverse}
use Rattle.core_meaning.specs.Plain.{plain_arguments}
use Rattle.core_cells.specs.Forms.{plain_value}
use Rattle.interp_actions.specs.declared.actions.Operand.TheVariants as operand
use Rattle.interp_actions.specs.Actions.{argument_action, arguments_action}
use Rattle.interp_actions.specs.StackLaws.{fails_behind}
use Rattle.run_machine.specs.declared.machine.Machine.{Machine}
use Rattle.run_machine.proofs.MachineLemmas.{do_from, operand_taken}
use Rattle.run_calls.proofs.calls.argument.Goals as goal

pub returns-in-None : goal.returns-in-None
returns-in-None c = fails_behind _ _ (c.in-None.ensures.none _ _)

pub returns-in-Some : goal.returns-in-Some
returns-in-Some c =
    let m = c.args.machine.now in
    let middle : Machine = record m { control = c.take_value.new.self } in
    let rest = plain_arguments c.args.arguments.now in
    let before = reverse (map plain_value c.args.values.items) in
    let action = argument_action c.args.function rest before in
    do_from c.with_argument.result (arguments_action c.args.function rest (plain_value c.in-Some.value ∷ before)) action m middle c.with_argument.new.machine
    (operand_taken m c.take_value.new.self (operand.Value c.in-Some.value) action c.take_value.ensures.actions c.in-Some.ensures.some)
    c.with_argument.ensures
