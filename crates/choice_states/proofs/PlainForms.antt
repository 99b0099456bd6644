-- Lists of alternatives and parts, by the plain form of each.
use Rattle.std.proofs.Common.{◌≡◌, List, [], ◌∷◌, map, refl, ap, ◌∙◌}
use Rattle.cond_formula.specs.declared.formulas.Formula.{Formula}
use Rattle.cond_formula.specs.Conditions.{Condition, condition_of}
use Rattle.choice_trees.specs.declared.trees.Choice.{Choice}
use Rattle.choice_trees.specs.declared.trees.Item.{Item}
use Rattle.choice_trees.specs.ChoiceTrees.{PlainItem, PlainBranches, branch, choice, plain_item, plain_branches, plain_choices}

abbrev pub plain_branch : Formula × Item → Condition × PlainItem
plain_branch b = (condition_of b.0, plain_item b.1)

abbrev pub plain_part : Choice Item → PlainBranches
plain_part part = plain_branches part.branches.items

pub same_branches : (xs ys : List (Formula × Item)) → map plain_branch xs ≡ map plain_branch ys → plain_branches xs ≡ plain_branches ys
same_branches [] [] e = refl
same_branches [] (y ∷ ys) e = absurd (cc e)
same_branches (x ∷ xs) [] e = absurd (cc e)
same_branches (x ∷ xs) (y ∷ ys) e =
    let first : plain_branch x ≡ plain_branch y = cc e in
    let rest : map plain_branch xs ≡ map plain_branch ys = cc e in
    ap (λ p. branch p.0 p.1 (plain_branches xs)) first ∙ ap (branch (condition_of y.0) (plain_item y.1)) (same_branches xs ys rest)

pub same_parts : (xs ys : List (Choice Item)) → map plain_part xs ≡ map plain_part ys → plain_choices xs ≡ plain_choices ys
same_parts [] [] e = refl
same_parts [] (y ∷ ys) e = absurd (cc e)
same_parts (x ∷ xs) [] e = absurd (cc e)
same_parts (x ∷ xs) (y ∷ ys) e =
    let first : plain_part x ≡ plain_part y = cc e in
    let rest : map plain_part xs ≡ map plain_part ys = cc e in
    ap (λ p. choice p (plain_choices xs)) first ∙ ap (choice (plain_part y)) (same_parts xs ys rest)
