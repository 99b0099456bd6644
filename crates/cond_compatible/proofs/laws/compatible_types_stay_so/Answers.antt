use Rattle.cond_compatible.proofs.Renumbered.{stay_compatible}
use Rattle.cond_compatible.proofs.laws.compatible_types_stay_so.Goals as goal

pub returns : goal.returns
returns c = λ on tables structs by follow a b p q. stay_compatible on tables structs by follow a b p q
