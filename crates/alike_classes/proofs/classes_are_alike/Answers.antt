use Rattle.alike_classes.proofs.Classes.{classes-alike}
use Rattle.alike_classes.proofs.classes_are_alike.Goals as goal

pub returns : goal.returns
returns c = classes-alike
