use Rattle.std.proofs.Common.{ap}
use Rattle.conditional.specs.Entries.{first}
use Rattle.cond_typing.proofs.variants.VariantReads.nothing.Goals as goal

pub returns : goal.returns
returns c = λ on callable r. record { outcome = c.nothing.ensures on r.outcome; callee = ap first (c.empty.ensures on) }
