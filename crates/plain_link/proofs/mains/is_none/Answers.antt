use Rattle.std.proofs.Common.{sym, arith}
use Rattle.plain_link.proofs.FaultLaws.{no_types}
use Rattle.plain_link.proofs.mains.is_none.Goals as goal

pub returns-in-len1-up : goal.returns-in-len1-up
returns-in-len1-up c = sym (no_types c.args.types.now (omega arith))
