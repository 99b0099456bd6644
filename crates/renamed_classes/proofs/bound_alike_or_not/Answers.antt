use Rattle.renamed_classes.proofs.Stable.{bound-alike}
use Rattle.renamed_classes.proofs.bound_alike_or_not.Goals as goal

pub returns : goal.returns
returns c = bound-alike
