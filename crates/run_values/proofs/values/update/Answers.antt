use Rattle.interp_actions.specs.Actions as plain
use Rattle.run_machine.proofs.MachineLemmas.{do_with}
use Rattle.run_values.proofs.values.update.Goals as goal

pub returns : goal.returns
returns c = do_with c.update.result (plain.update_action c.args.change) c.args.machine.now c.update.new.control c.update.new.memory c.update.ensures
