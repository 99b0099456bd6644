use Rattle.std.proofs.Common.{ap, ◌∙◌}
use Rattle.c_tree.specs.Trees.{node}
use Rattle.c_tree.specs.TreeLaws.{plain_tree-Node}
use Rattle.choice_expansions.proofs.Crossing.{parts_of_row}
use Rattle.choice_expansions.proofs.rows.node_of.Goals as goal

pub returns-clause-tree : goal.returns-clause-tree
returns-clause-tree c = plain_tree-Node c.args.kind c.args.row.trees ∙ ap (node c.args.kind) (parts_of_row c.args.row.trees.items)
