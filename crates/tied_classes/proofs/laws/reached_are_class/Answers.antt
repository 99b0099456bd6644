use Rattle.tied_classes.proofs.Told.{reached_are_class}
use Rattle.tied_classes.proofs.laws.reached_are_class.Goals as goal

pub returns : goal.returns
returns c = reached_are_class c.tokens_bring_back.ensures c.declarations_are_occurrences.ensures
