use Rattle.interp_actions.specs.Actions as plain
use Rattle.run_machine.proofs.MachineLemmas.{do_alone}
use Rattle.run_values.proofs.values.use_value.Goals as goal

pub returns : goal.returns
returns c = do_alone c.use_value.result plain.use_action c.args.machine.now c.use_value.new.control c.use_value.ensures
