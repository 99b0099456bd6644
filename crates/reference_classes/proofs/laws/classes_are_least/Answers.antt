use Rattle.reference_classes.proofs.Brought.{classes_are_least}
use Rattle.reference_classes.proofs.laws.classes_are_least.Goals as goal

pub returns : goal.returns
returns c = classes_are_least
