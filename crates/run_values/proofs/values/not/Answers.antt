use Rattle.interp_actions.specs.Actions as plain
use Rattle.run_machine.proofs.MachineLemmas.{do_alone}
use Rattle.run_values.proofs.values.not.Goals as goal

pub returns : goal.returns
returns c = do_alone c.not.result plain.not_action c.args.machine.now c.not.new.control c.not.ensures
