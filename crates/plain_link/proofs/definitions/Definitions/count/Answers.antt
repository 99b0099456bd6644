use Rattle.std.proofs.Common.{map, sym, rules}
use Rattle.plain_link.specs.PlainDefinitions.{plain_defined}
use Rattle.plain_link.proofs.CountLaws.{undefined_count}
use Rattle.plain_link.proofs.definitions.Definitions.count.Goals as goal

pub returns-in-None : goal.returns-in-None
returns-in-None c = sym (undefined_count (map (plain_defined 0) c.args.self.now.list.items) c.args.name.now (search rules))
