use Rattle.core_meaning.specs.Plain.{plain_expression}
use Rattle.interp_actions.specs.Actions as plain
use Rattle.run_machine.proofs.MachineLemmas.{do_alone}
use Rattle.run_values.proofs.values.begin_value.Goals as goal

pub returns : goal.returns
returns c = do_alone c.begin_expression.result (plain.expression_action (plain_expression c.args.expression.now)) c.args.machine.now c.begin_expression.new.control c.begin_expression.ensures
