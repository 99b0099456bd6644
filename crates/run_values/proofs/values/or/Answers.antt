use Rattle.core_meaning.specs.Plain.{plain_expression}
use Rattle.interp_actions.specs.Actions as plain
use Rattle.run_machine.proofs.MachineLemmas.{do_alone}
use Rattle.run_values.proofs.values.or.Goals as goal

pub returns : goal.returns
returns c = do_alone c.or.result (plain.or_action (plain_expression c.args.right.now)) c.args.machine.now c.or.new.control c.or.ensures
