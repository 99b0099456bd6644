use Rattle.cond_compatible.proofs.AgreeingSorts.{sorts_stay}
use Rattle.cond_compatible.proofs.laws.agreeing_sorts_stay_so.Goals as goal

pub returns : goal.returns
returns c = λ on tables structs by follow a b x y p q f g. sorts_stay on tables structs by follow a b x y p q f g
