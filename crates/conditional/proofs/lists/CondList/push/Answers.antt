use Rattle.std.proofs.Common.{rules}
use Rattle.conditional.proofs.ListLaws.{seen_push}
use Rattle.conditional.proofs.lists.CondList.push.Goals as goal

pub returns : goal.returns
returns g c = λ on. seen_push g.T.Plain.form on c.args.self.now.entries.items c.push.new.self.items (record { when = c.args.when; what = c.args.what }) (search rules)
