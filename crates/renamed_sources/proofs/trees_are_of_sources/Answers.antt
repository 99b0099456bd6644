use Rattle.renamed_sources.proofs.Present.{trees_of_sources}
use Rattle.renamed_sources.proofs.trees_are_of_sources.Goals as goal

pub returns : goal.returns
returns c = trees_of_sources
