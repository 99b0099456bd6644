use Rattle.std.proofs.Common.{refl}
use Rattle.run_machine.proofs.MachineLemmas.{stacks_come}
use Rattle.run_statements.proofs.statements.put_ending.Goals as goal

pub returns : goal.returns
returns c = stacks_come c.args.machine.now (record c.args.machine.now.control { operands = c.push.new.stack }) _ _ _ refl c.in_ok-push.ensures refl
