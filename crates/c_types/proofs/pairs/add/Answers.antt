use Rattle.std.proofs.Common.{rules}
use Rattle.c_types.proofs.PairLaws.{adds_pushed}
use Rattle.c_types.proofs.pairs.add.Goals as goal

pub returns-in_ok-push : goal.returns-in_ok-push
returns-in_ok-push c = adds_pushed c.args.pair c.args.found.now.items c.push.new.self.items (search rules)
