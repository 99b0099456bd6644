use Rattle.std.proofs.Common.{rules}
use Rattle.conditional.proofs.ListLaws.{seen_both}
use Rattle.conditional.proofs.lists.CondList.append.Goals as goal

pub returns : goal.returns
returns g c = λ on. seen_both g.T.Plain.form on c.args.self.now.entries.items c.args.other.entries.items c.append.new.self.items (search rules)
