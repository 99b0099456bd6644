use Rattle.interp_actions.specs.Actions as plain
use Rattle.run_machine.proofs.MachineLemmas.{do_alone}
use Rattle.run_values.proofs.values.first_element.Goals as goal

pub returns : goal.returns
returns c = do_alone c.to_first_element.result plain.first_action c.args.machine.now c.to_first_element.new.control c.to_first_element.ensures
