use Rattle.interp_actions.specs.Actions as plain
use Rattle.run_machine.proofs.MachineLemmas.{do_with}
use Rattle.run_values.proofs.values.operate.Goals as goal

pub returns : goal.returns
returns c = do_with c.operate.result (plain.operate_action c.args.op) c.args.machine.now c.operate.new.control c.args.machine.now.memory c.operate.ensures
