use Rattle.interp_actions.specs.Actions as plain
use Rattle.run_machine.proofs.MachineLemmas.{do_with}
use Rattle.run_values.proofs.values.read.Goals as goal

pub returns : goal.returns
returns c = do_with c.read.result plain.read_action c.args.machine.now c.read.new.control c.args.machine.now.memory c.read.ensures
