use Rattle.interp_actions.specs.Actions as plain
use Rattle.run_machine.proofs.MachineLemmas.{do_alone}
use Rattle.run_values.proofs.values.nothing.Goals as goal

pub returns : goal.returns
returns c = do_alone c.nothing.result plain.nothing_action c.args.machine.now c.nothing.new.control c.nothing.ensures
