use Rattle.std.proofs.Common.{refl}
use Rattle.run_machine.proofs.MachineLemmas.{stacks_come}
use Rattle.run_statements.proofs.statements.leave_loop.Goals as goal

pub returns : goal.returns
returns c = stacks_come (record c.args.machine.now { frame = record c.args.machine.now.frame { bound = c.args.turns.bound_behind } }) (record c.args.machine.now.control { operands = c.push.new.stack }) _ _ _ refl c.in_ok-push.ensures refl
