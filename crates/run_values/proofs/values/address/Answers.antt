use Rattle.interp_actions.specs.Actions as plain
use Rattle.run_machine.proofs.MachineLemmas.{do_alone}
use Rattle.run_values.proofs.values.address.Goals as goal

pub returns : goal.returns
returns c = do_alone c.address.result plain.address_action c.args.machine.now c.address.new.control c.address.ensures
