use Rattle.core_meaning.specs.Plain.{plain_expression}
use Rattle.interp_actions.specs.Actions as plain
use Rattle.run_machine.proofs.MachineLemmas.{do_alone}
use Rattle.run_values.proofs.values.choose.Goals as goal

pub returns : goal.returns
returns c = do_alone c.choose.result (plain.choose_action (plain_expression c.args.first.now) (plain_expression c.args.second.now)) c.args.machine.now c.choose.new.control c.choose.ensures
