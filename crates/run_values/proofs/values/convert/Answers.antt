use Rattle.interp_actions.specs.Actions as plain
use Rattle.run_machine.proofs.MachineLemmas.{do_alone}
use Rattle.run_values.proofs.values.convert.Goals as goal

pub returns : goal.returns
returns c = do_alone c.convert.result (plain.convert_action c.args.ty) c.args.machine.now c.convert.new.control c.convert.ensures
