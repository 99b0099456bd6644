use Rattle.member_uses.proofs.Locals.{list_of}
use Rattle.member_uses.proofs.Lists.{all_derived}
use Rattle.member_uses.proofs.declarators_are_derived.Goals as goal

pub returns : goal.returns
returns c = λ role list d pieces. all_derived role (list_of d) pieces
