use Rattle.std.proofs.Common.{arith}
use Rattle.std.proofs.lemmas.Grind.{common_steps}
use Rattle.c_tree.specs.TreeLaws.{tree_kinds}
use Rattle.c_tree.proofs.trees.+spell.Goals as goal

pub Tree::spell_onto-returns-in_ok-push-in-Leaf : goal.Tree::spell_onto-returns-in_ok-push-in-Leaf
Tree::spell_onto-returns-in_ok-push-in-Leaf t c = λ behind. grind (arith, common_steps, tree_kinds)
