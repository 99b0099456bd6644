use Rattle.interp_actions.specs.Actions as plain
use Rattle.run_machine.proofs.MachineLemmas.{do_with}
use Rattle.run_values.proofs.values.write.Goals as goal

pub returns : goal.returns
returns c = do_with c.write.result plain.write_action c.args.machine.now c.write.new.control c.write.new.memory c.write.ensures
