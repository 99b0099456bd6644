use Rattle.core_meaning.specs.Plain.{plain_statement}
use Rattle.interp_actions.specs.Actions as plain
use Rattle.run_machine.proofs.MachineLemmas.{does_alone}
use Rattle.run_values.proofs.values.branch.Goals as goal

pub returns : goal.returns
returns c = does_alone c.in_ok-flow.flow (plain.if_action (plain_statement c.args.first.now) (plain_statement c.args.second.now)) c.args.machine.now _ c.in_ok-flow.ensures
