use Rattle.alike_classes.proofs.Named.{named-alike}
use Rattle.alike_classes.proofs.named_classes_are_alike.Goals as goal

pub returns : goal.returns
returns c = named-alike
