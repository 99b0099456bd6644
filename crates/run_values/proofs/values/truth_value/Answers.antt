use Rattle.interp_actions.specs.Actions as plain
use Rattle.run_machine.proofs.MachineLemmas.{do_alone}
use Rattle.run_values.proofs.values.truth_value.Goals as goal

pub returns : goal.returns
returns c = do_alone c.truth_value.result plain.truth_action c.args.machine.now c.truth_value.new.control c.truth_value.ensures
