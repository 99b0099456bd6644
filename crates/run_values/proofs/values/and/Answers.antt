use Rattle.core_meaning.specs.Plain.{plain_expression}
use Rattle.interp_actions.specs.Actions as plain
use Rattle.run_machine.proofs.MachineLemmas.{do_alone}
use Rattle.run_values.proofs.values.and.Goals as goal

pub returns : goal.returns
returns c = do_alone c.and.result (plain.and_action (plain_expression c.args.right.now)) c.args.machine.now c.and.new.control c.and.ensures
