-- What is a part of an item isn't as deep.
use Rattle.std.proofs.Common.{ℕ, zero, suc, ◌<◌, ◌≤◌, List, [], ◌∷◌, length, get_or, arith}
use Rattle.cond_formula.specs.declared.formulas.Formula.{Formula}
use Rattle.choice_trees.specs.declared.trees.Choice.{Choice}
use Rattle.choice_trees.specs.declared.trees.Item.{Item}
use Rattle.choice_trees.specs.ChoiceTrees.{plain_item, plain_branches, plain_choices}
use Rattle.choice_trees.specs.Depths.{depth, choices_depth, branches_depth}

pub choice_within : (list : List (Choice Item)) (i : ℕ) (c : Choice Item) → i < length list → branches_depth (plain_branches (get_or list i c).branches.items) ≤ choices_depth (plain_choices list)
choice_within [] i c less = absurd (omega (arith, less))
choice_within (first ∷ rest) zero c less = omega arith
choice_within (first ∷ rest) (suc i) c less = let h : branches_depth (plain_branches (get_or rest i c).branches.items) ≤ choices_depth (plain_choices rest) = choice_within rest i c (omega (arith, less)) in omega (arith, h)

pub branch_within : (list : List (Formula × Item)) (i : ℕ) (b : Formula × Item) → i < length list → depth (plain_item (get_or list i b).1) ≤ branches_depth (plain_branches list)
branch_within [] i b less = absurd (omega (arith, less))
branch_within (first ∷ rest) zero b less = omega arith
branch_within (first ∷ rest) (suc i) b less = let h : depth (plain_item (get_or rest i b).1) ≤ branches_depth (plain_branches rest) = branch_within rest i b (omega (arith, less)) in omega (arith, h)
