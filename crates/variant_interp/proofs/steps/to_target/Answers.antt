use Rattle.core_meaning.specs.Plain.{plain_expression}
use Rattle.core_meaning.specs.Program as program_form
use Rattle.interp_actions.specs.Actions as plain
use Rattle.run_machine.proofs.MachineLemmas.{do_alone}
use Rattle.variant_interp.proofs.steps.to_target.Goals as goal

pub returns : goal.returns
returns c = do_alone c.begin_target.result (plain.place_action (program_form.target (plain_expression c.args.pointer.now))) c.args.machine.now c.begin_target.new.control c.begin_target.ensures
