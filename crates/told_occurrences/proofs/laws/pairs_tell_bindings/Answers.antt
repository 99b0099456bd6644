use Rattle.told_occurrences.proofs.Pairs.{pairs-tell}
use Rattle.told_occurrences.proofs.laws.pairs_tell_bindings.Goals as goal

pub returns : goal.returns
returns c = pairs-tell c.declarations_are_occurrences.ensures
