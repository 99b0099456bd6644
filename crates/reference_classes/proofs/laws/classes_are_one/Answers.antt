use Rattle.reference_classes.proofs.Brought.{classes_are_one}
use Rattle.reference_classes.proofs.laws.classes_are_one.Goals as goal

pub returns : goal.returns
returns c = classes_are_one c.tokens_bring_back.ensures
