use Rattle.interp_actions.specs.Actions as plain
use Rattle.run_machine.proofs.MachineLemmas.{do_alone}
use Rattle.run_values.proofs.values.falls.Goals as goal

pub returns : goal.returns
returns c = do_alone c.falls.result plain.falls_action c.args.machine.now c.falls.new.control c.falls.ensures
