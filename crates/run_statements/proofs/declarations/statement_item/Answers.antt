use Rattle.std.proofs.Common.{refl}
use Rattle.run_machine.proofs.MachineLemmas.{stacks_come}
use Rattle.run_statements.proofs.declarations.statement_item.Goals as goal

pub returns : goal.returns
returns c = stacks_come c.args.machine.now (record c.args.machine.now.control { actions = c.push_two.new.stack }) _ _ _ c.in_ok-push_two.ensures refl refl
