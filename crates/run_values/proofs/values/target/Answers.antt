use Rattle.interp_actions.specs.Actions as plain
use Rattle.run_machine.proofs.MachineLemmas.{do_alone}
use Rattle.run_values.proofs.values.target.Goals as goal

pub returns : goal.returns
returns c = do_alone c.target.result plain.target_action c.args.machine.now c.target.new.control c.target.ensures
