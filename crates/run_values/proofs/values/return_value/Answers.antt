use Rattle.interp_actions.specs.Actions as plain
use Rattle.run_machine.proofs.MachineLemmas.{do_alone}
use Rattle.run_values.proofs.values.return_value.Goals as goal

pub returns : goal.returns
returns c = do_alone c.return_value.result plain.return_value_action c.args.machine.now c.return_value.new.control c.return_value.ensures
