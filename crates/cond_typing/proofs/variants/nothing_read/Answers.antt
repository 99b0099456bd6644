use Rattle.std.proofs.Common.{None, refl}
use Rattle.cond_typing.proofs.variants.nothing_read.Goals as goal

pub returns : goal.returns
returns c = λ on callable. record { outcome = c.in_ok-outcomes.ensures on; callee = record { number = None; seen = c.nothing.ensures on; same = refl } }
