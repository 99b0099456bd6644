use Rattle.tied_classes.proofs.Told.{occurrences_are_told}
use Rattle.tied_classes.proofs.laws.occurrences_are_told.Goals as goal

pub returns : goal.returns
returns c = occurrences_are_told
