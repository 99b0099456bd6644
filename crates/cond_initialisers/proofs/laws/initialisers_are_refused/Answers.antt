use Rattle.cond_initialisers.specs.Refusals.{members_in}
use Rattle.cond_initialisers.proofs.Read.{initial_same}
use Rattle.cond_initialisers.proofs.Followed.{members_followed}
use Rattle.cond_initialisers.proofs.laws.initialisers_are_refused.Goals as goal

pub returns : goal.returns
returns c = λ t scope f globals asked right tree d ty there path behind.
    initial_same f.by scope (members_in t) globals asked right (members_followed t scope f) d ty there path behind
