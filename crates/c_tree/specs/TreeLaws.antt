-- The plain form of each kind of tree.
use Rattle.std.proofs.Common.{◌≡◌, sym, ap, ◌∙◌}
use Rattle.std.specs.declared.alloc.Global.{Global}
use Rattle.std.specs.Prelude.{Vec}
use Rattle.c_text.specs.declared.token.Token.{Token}
use Rattle.c_text.specs.Token.{plain_token}
use Rattle.c_tree.specs.declared.kinds.Kind.{Kind}
use Rattle.c_tree.specs.declared.trees.Tree.{Tree, Leaf, Node}
use Rattle.c_tree.specs.declared.trees.Tree.TheVariants.{rolls-Leaf, rolls-Node}
use Rattle.c_tree.specs.declared.trees.Tree.TheFolds.{fold-roll-Tree}
use Rattle.c_tree.specs.declared.trees.Tree.TheOpen as level
use Rattle.c_tree.specs.Trees.{PlainTree, leaf, node, one_level, plain_tree, plain_trees}

pub plain_tree-Leaf : (token : Token) → plain_tree (Leaf token) ≡ leaf (plain_token token)
unfolding plain_tree
plain_tree-Leaf token = ap plain_tree (sym (rolls-Leaf token)) ∙ fold-roll-Tree PlainTree one_level (level.Leaf token)

pub plain_tree-Node : (kind : Kind) (parts : Vec Tree Global) → plain_tree (Node kind parts) ≡ node kind (plain_trees parts.items)
unfolding plain_tree
plain_tree-Node kind parts = ap plain_tree (sym (rolls-Node kind parts)) ∙ fold-roll-Tree PlainTree one_level (level.Node kind parts)

-- the plain form of each kind of tree
pub ruleset tree_kinds = (plain_tree-Leaf, plain_tree-Node)
