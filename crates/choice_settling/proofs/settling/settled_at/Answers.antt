use Rattle.std.proofs.Common.{false}
use Rattle.choice_settling.proofs.SettlingLemmas.{so_at}
use Rattle.choice_settling.proofs.settling.settled_at.Goals as goal

pub returns-else-new-clause-settled : goal.returns-else-new-clause-settled
returns-else-new-clause-settled c = so_at c.args.path.now c.args.here.now c.args.outer c.args.ahead.tokens.now c.args.place false c.args.parts.now.items
