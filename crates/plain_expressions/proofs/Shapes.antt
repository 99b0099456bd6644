-- The plain forms of so many parts.
use Rattle.std.proofs.Common.{◌≡◌, ℕ, suc, ◌+◌, ◌/◌, ◌<◌, ◌≤◌, List, [], ◌∷◌, map, length, get_or, drop, refl, sym, ap, ◌∙◌, arith}
use Rattle.std.proofs.lemmas.List.{length-map}
use Rattle.c_tree.specs.declared.trees.Tree.{Tree}
use Rattle.c_tree.specs.Trees.{PlainTree, trees, none, more, plain_tree, plain_trees}
use Rattle.core_meaning.specs.Expressions.{count_entries}

pub two_parts : (parts : List Tree) (a b : Tree) → 2 ≤ length parts → length parts < 3 → a ≡ get_or parts 0 a → b ≡ get_or parts 1 b → plain_trees parts ≡ more (plain_tree a) (more (plain_tree b) none)
two_parts [] a b l h p q = absurd (omega arith)
two_parts (x ∷ []) a b l h p q = absurd (omega arith)
two_parts (x ∷ y ∷ []) a b l h p q = cc
two_parts (x ∷ y ∷ z ∷ rest) a b l h p q = absurd (omega arith)

pub three_parts : (parts : List Tree) (a b c : Tree) → 3 ≤ length parts → length parts < 4 → a ≡ get_or parts 0 a → b ≡ get_or parts 1 b → c ≡ get_or parts 2 c → plain_trees parts ≡ more (plain_tree a) (more (plain_tree b) (more (plain_tree c) none))
three_parts [] a b c l h p q r = absurd (omega arith)
three_parts (x ∷ []) a b c l h p q r = absurd (omega arith)
three_parts (x ∷ y ∷ []) a b c l h p q r = absurd (omega arith)
three_parts (x ∷ y ∷ z ∷ []) a b c l h p q r = cc
three_parts (x ∷ y ∷ z ∷ u ∷ rest) a b c l h p q r = absurd (omega arith)

half_behind : (n : ℕ) → (suc (suc n) + 1) / 2 ≡ 1 + (n + 1) / 2
half_behind n = omega arith

pub half_of_trees : (parts : List PlainTree) → count_entries (trees parts) ≡ (length parts + 1) / 2
half_of_trees [] = refl
half_of_trees (x ∷ []) = refl
half_of_trees (x ∷ y ∷ rest) = ap (λ n. 1 + n) (half_of_trees rest) ∙ sym (half_behind (length rest))

pub half_of_parts : (parts : List Tree) → count_entries (plain_trees parts) ≡ (length parts + 1) / 2
half_of_parts parts = half_of_trees (map plain_tree parts) ∙ ap (λ n. (n + 1) / 2) (length-map parts plain_tree)

-- the parts that aren't named stand where they stand
pub three_first : (parts : List Tree) (a c : Tree) → 3 ≤ length parts → a ≡ get_or parts 0 a → c ≡ get_or parts 2 c → plain_trees parts ≡ more (plain_tree a) (more (plain_tree (get_or parts 1 a)) (more (plain_tree c) (plain_trees (drop 3 parts))))
three_first [] a c l p q = absurd (omega arith)
three_first (x ∷ []) a c l p q = absurd (omega arith)
three_first (x ∷ y ∷ []) a c l p q = absurd (omega arith)
three_first (x ∷ y ∷ z ∷ rest) a c l p q = cc

pub three_around : (parts : List Tree) (a c : Tree) → 3 ≤ length parts → length parts < 4 → a ≡ get_or parts 0 a → c ≡ get_or parts 2 c → plain_trees parts ≡ more (plain_tree a) (more (plain_tree (get_or parts 1 a)) (more (plain_tree c) none))
three_around [] a c l h p q = absurd (omega arith)
three_around (x ∷ []) a c l h p q = absurd (omega arith)
three_around (x ∷ y ∷ []) a c l h p q = absurd (omega arith)
three_around (x ∷ y ∷ z ∷ []) a c l h p q = cc
three_around (x ∷ y ∷ z ∷ u ∷ rest) a c l h p q = absurd (omega arith)

pub three_inside : (parts : List Tree) (b : Tree) → 3 ≤ length parts → length parts < 4 → b ≡ get_or parts 1 b → plain_trees parts ≡ more (plain_tree (get_or parts 0 b)) (more (plain_tree b) (more (plain_tree (get_or parts 2 b)) none))
three_inside [] b l h p = absurd (omega arith)
three_inside (x ∷ []) b l h p = absurd (omega arith)
three_inside (x ∷ y ∷ []) b l h p = absurd (omega arith)
three_inside (x ∷ y ∷ z ∷ []) b l h p = cc
three_inside (x ∷ y ∷ z ∷ u ∷ rest) b l h p = absurd (omega arith)

pub four_but_third : (parts : List Tree) (a b d : Tree) → 4 ≤ length parts → length parts < 5 → a ≡ get_or parts 0 a → b ≡ get_or parts 1 b → d ≡ get_or parts 3 d → plain_trees parts ≡ more (plain_tree a) (more (plain_tree b) (more (plain_tree (get_or parts 2 a)) (more (plain_tree d) none)))
four_but_third [] a b d l h p q r = absurd (omega arith)
four_but_third (x ∷ []) a b d l h p q r = absurd (omega arith)
four_but_third (x ∷ y ∷ []) a b d l h p q r = absurd (omega arith)
four_but_third (x ∷ y ∷ z ∷ []) a b d l h p q r = absurd (omega arith)
four_but_third (x ∷ y ∷ z ∷ u ∷ []) a b d l h p q r = cc
four_but_third (x ∷ y ∷ z ∷ u ∷ v ∷ rest) a b d l h p q r = absurd (omega arith)

pub four_but_last : (parts : List Tree) (a b c : Tree) → 4 ≤ length parts → length parts < 5 → a ≡ get_or parts 0 a → b ≡ get_or parts 1 b → c ≡ get_or parts 2 c → plain_trees parts ≡ more (plain_tree a) (more (plain_tree b) (more (plain_tree c) (more (plain_tree (get_or parts 3 a)) none)))
four_but_last [] a b c l h p q r = absurd (omega arith)
four_but_last (x ∷ []) a b c l h p q r = absurd (omega arith)
four_but_last (x ∷ y ∷ []) a b c l h p q r = absurd (omega arith)
four_but_last (x ∷ y ∷ z ∷ []) a b c l h p q r = absurd (omega arith)
four_but_last (x ∷ y ∷ z ∷ u ∷ []) a b c l h p q r = cc
four_but_last (x ∷ y ∷ z ∷ u ∷ v ∷ rest) a b c l h p q r = absurd (omega arith)

pub five_but_fourth : (parts : List Tree) (a b c e : Tree) → 5 ≤ length parts → length parts < 6 → a ≡ get_or parts 0 a → b ≡ get_or parts 1 b → c ≡ get_or parts 2 c → e ≡ get_or parts 4 e → plain_trees parts ≡ more (plain_tree a) (more (plain_tree b) (more (plain_tree c) (more (plain_tree (get_or parts 3 a)) (more (plain_tree e) none))))
five_but_fourth [] a b c e l h p q r s = absurd (omega arith)
five_but_fourth (x ∷ []) a b c e l h p q r s = absurd (omega arith)
five_but_fourth (x ∷ y ∷ []) a b c e l h p q r s = absurd (omega arith)
five_but_fourth (x ∷ y ∷ z ∷ []) a b c e l h p q r s = absurd (omega arith)
five_but_fourth (x ∷ y ∷ z ∷ u ∷ []) a b c e l h p q r s = absurd (omega arith)
five_but_fourth (x ∷ y ∷ z ∷ u ∷ v ∷ []) a b c e l h p q r s = cc
five_but_fourth (x ∷ y ∷ z ∷ u ∷ v ∷ w ∷ rest) a b c e l h p q r s = absurd (omega arith)
