use Rattle.interp_actions.specs.Actions as plain
use Rattle.run_machine.proofs.MachineLemmas.{do_alone}
use Rattle.run_values.proofs.values.test.Goals as goal

pub returns : goal.returns
returns c = do_alone c.test.result plain.test_action c.args.machine.now c.test.new.control c.test.ensures
