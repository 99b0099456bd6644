-- Texts of trees, one tree after another.
use Rattle.std.proofs.Common.{◌≡◌, ℕ, List, [], ◌∷◌, ◌++◌, map, false, refl, ap}
use Rattle.c_tree.specs.declared.kinds.Kind.{Kind}
use Rattle.c_tree.specs.declared.kinds.Kind.TheVariants as k
use Rattle.c_tree.specs.Trees.{PlainTrees, node, plain_tree, plain_trees}
use Rattle.c_tree.specs.declared.trees.Tree.{Tree}
use Rattle.core_meaning.specs.Linking.{texts_in, texts_in_all, different_texts, with_text, texts_of_units}
use Rattle.plain_elab.specs.TextParts.{is_texts}

pub texts_both : (known xs ys : List (List ℕ)) → different_texts known (xs ++ ys) ≡ different_texts (different_texts known xs) ys
texts_both known [] ys = refl
texts_both known (x ∷ xs) ys = texts_both (with_text known x) xs ys

pub other_texts : (kind : Kind) (parts : PlainTrees) → is_texts kind ≡ false → texts_in (node kind parts) ≡ texts_in_all parts
other_texts k.Texts parts h = absurd cc
other_texts kind parts h = refl

pub units_texts : (units : List Tree) → texts_in_all (plain_trees units) ≡ texts_of_units (map plain_tree units)
units_texts [] = refl
units_texts (unit ∷ rest) = ap (λ texts. texts_in (plain_tree unit) ++ texts) (units_texts rest)
