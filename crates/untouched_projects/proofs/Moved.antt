-- Renamed trees as trees whose tokens stand elsewhere.
use Rattle.std.proofs.Common.{◌≡◌, List, [], ◌∷◌, map, refl, sym, ap, ap₂}
use Rattle.c_text.specs.Token.{PlainToken}
use Rattle.c_tree.specs.Trees.{PlainTree, PlainTrees, leaf, node, none, more}
use Rattle.moved_programs.specs.Trees.{moved_tree, moved_trees, OnlyMoves}
use Rattle.renamings.specs.Renamings.{Renaming, renamed_token}
use Rattle.renamed_trees.specs.RenamedTrees.{renamed_tree, renamed_trees}
use Rattle.renamed_products.specs.Products.{AreOnlyMoved, renamed_all}
use Rattle.untouched_projects.specs.Laws.{RenamedTreesAreMoved}

mutual
  tree_moved : (r : Renaming) (tree : PlainTree) → renamed_tree r tree ≡ moved_tree (renamed_token r) tree
  tree_moved r (leaf token) = refl
  tree_moved r (node kind parts) = ap (node kind) (trees_moved r parts)

  trees_moved : (r : Renaming) (parts : PlainTrees) → renamed_trees r parts ≡ moved_trees (renamed_token r) parts
  trees_moved r none = refl
  trees_moved r (more tree rest) = ap₂ (λ (t : PlainTree) (l : PlainTrees). more t l) (tree_moved r tree) (trees_moved r rest)

pub all_moved : (r : Renaming) (units : List PlainTree) → renamed_all r units ≡ map (moved_tree (renamed_token r)) units
all_moved r [] = refl
all_moved r (unit ∷ units) = ap₂ (λ (t : PlainTree) (l : List PlainTree). t ∷ l) (tree_moved r unit) (all_moved r units)

pub only_moves : (r : Renaming) (tokens : List PlainToken) → AreOnlyMoved r tokens → OnlyMoves (renamed_token r) tokens
only_moves r tokens only = record {
  kinds = λ a h. sym (only.spellings a h).kind;
  texts = λ a h. sym (only.spellings a h).text;
  places = only.places;
}

pub trees_are_moved : RenamedTreesAreMoved
trees_are_moved = record { trees = tree_moved; tokens = only_moves }
