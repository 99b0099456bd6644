use Rattle.renamed_sources.proofs.Renamed.{sources_renamed}
use Rattle.renamed_sources.proofs.sources_are_renamed.Goals as goal

pub returns : goal.returns
returns c = sources_renamed
