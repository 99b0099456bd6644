use Rattle.renamed_classes.proofs.NoMacros.{names-no-macros}
use Rattle.renamed_classes.proofs.names_are_no_macros.Goals as goal

pub returns : goal.returns
returns c = names-no-macros
