use Rattle.told_captures.proofs.Apart.{pairs-of-renamed}
use Rattle.told_captures.proofs.pairs_of_renamed_tell_bindings.Goals as goal

pub returns : goal.returns
returns c = pairs-of-renamed c.identifiers_are_bound.ensures c.judgements_bind_alike.ensures c.pairs_tell_bindings.ensures
