use Rattle.std.proofs.Common.{[], refl, Some}
use Rattle.core_meaning.specs.Program as program_form
use Rattle.core_meaning.specs.Values.{at}
use Rattle.interp_actions.specs.Actions as plain
use Rattle.run_machine.specs.Machines.{given_outcome}
use Rattle.run_machine.proofs.MachineLemmas.{come_is, come_given}
use Rattle.variant_interp.proofs.steps.global.Goals as goal

pub returns : goal.returns
returns c =
    let m = c.args.machine.now in
    let o = Some (plain.place_operand (at c.args.number [])) in
    come_is c.put_object.result (given_outcome o m) (plain.place_action (program_form.global c.args.number)) m (record m { control = c.put_object.new.control })
    (come_given c.put_object.result o m c.put_object.new.control c.put_object.ensures) refl
