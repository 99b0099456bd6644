use Rattle.cond_pp.proofs.ActiveLemmas.{streams-come}
use Rattle.cond_pp.proofs.laws.streams_come_from_active.Goals as goal

pub returns : goal.returns
returns c = streams-come c.tokens_come_from_active.ensures
