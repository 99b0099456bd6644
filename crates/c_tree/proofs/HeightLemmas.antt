-- How many parts a node has, and what that adds to its height.
use Rattle.std.proofs.Common.{◌≡◌, ◌<◌, ◌≤◌, List, [], ◌∷◌, length, refl, arith}
use Rattle.c_tree.specs.declared.trees.Tree.{Tree}
use Rattle.c_tree.specs.Trees.{plain_trees}
use Rattle.c_tree.specs.Heights.{several}

pub several-short : (parts : List Tree) → length parts < 2 → several (plain_trees parts) ≡ 0
several-short [] short = refl
several-short (first ∷ []) short = refl
several-short (first ∷ second ∷ rest) short = absurd (omega arith)

pub several-long : (parts : List Tree) → 2 ≤ length parts → several (plain_trees parts) ≡ 1
several-long [] long = absurd (omega arith)
several-long (first ∷ []) long = absurd (omega arith)
several-long (first ∷ second ∷ rest) long = refl
