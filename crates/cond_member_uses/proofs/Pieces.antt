-- Tokens that are spelt as their kinds say, of a tree and of what stands behind it.
use Rattle.std.proofs.Common.{List, []}
use Rattle.c_text.specs.Token.{PlainToken}
use Rattle.c_tree.specs.Trees.{PlainTree, PlainTrees, leaf, node, none, more, written, all_written}
use Rattle.bindings.specs.Laws.{ArePieces}

mutual
  tree_pieces : (tree : PlainTree) (behind others : List PlainToken) → ArePieces (written tree behind) → ArePieces others → ArePieces (written tree others) × ArePieces behind
  tree_pieces (leaf token) behind others h g = ((h.0, g), h.1)
  tree_pieces (node kind parts) behind others h g = parts_pieces parts behind others h g

  parts_pieces : (parts : PlainTrees) (behind others : List PlainToken) → ArePieces (all_written parts behind) → ArePieces others → ArePieces (all_written parts others) × ArePieces behind
  parts_pieces none behind others h g = (g, h)
  parts_pieces (more tree rest) behind others h g =
      let last = parts_pieces rest behind others (tree_pieces tree (all_written rest behind) [] h tt).1 g in
      ((tree_pieces tree (all_written rest behind) (all_written rest others) h last.0).0, last.1)

pub first_pieces : (tree : PlainTree) (rest : PlainTrees) → ArePieces (all_written (more tree rest) []) → ArePieces (all_written (more tree none) [])
first_pieces tree rest h = (tree_pieces tree (all_written rest []) [] h tt).0

pub rest_pieces : (tree : PlainTree) (rest : PlainTrees) → ArePieces (all_written (more tree rest) []) → ArePieces (all_written rest [])
rest_pieces tree rest h = (tree_pieces tree (all_written rest []) [] h tt).1
