use Rattle.interp_actions.specs.Actions as plain
use Rattle.run_machine.proofs.MachineLemmas.{do_with}
use Rattle.run_values.proofs.values.update_after.Goals as goal

pub returns : goal.returns
returns c = do_with c.update_after.result (plain.update_after_action c.args.change) c.args.machine.now c.update_after.new.control c.update_after.new.memory c.update_after.ensures
