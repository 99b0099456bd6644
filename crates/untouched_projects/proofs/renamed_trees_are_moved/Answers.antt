use Rattle.untouched_projects.proofs.Moved.{trees_are_moved}
use Rattle.untouched_projects.proofs.renamed_trees_are_moved.Goals as goal

pub returns : goal.returns
returns c = trees_are_moved
