use Rattle.interp_actions.specs.Actions as plain
use Rattle.run_machine.proofs.MachineLemmas.{do_with}
use Rattle.run_values.proofs.values.member.Goals as goal

pub returns : goal.returns
returns c = do_with c.member.result (plain.member_action c.args.number) c.args.machine.now c.member.new.control c.args.machine.now.memory c.member.ensures
