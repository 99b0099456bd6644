use Rattle.renamed_trees.proofs.Renamed.{trees_renamed}
use Rattle.renamed_trees.proofs.trees_are_renamed.Goals as goal

pub returns : goal.returns
returns c = trees_renamed c.what_is_read_is_spelt.ensures c.what_is_spelt_is_read.ensures
