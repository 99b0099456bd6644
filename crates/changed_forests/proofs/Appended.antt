-- Alternatives and parts that are put one behind the other.
use Rattle.std.proofs.Common.{◌≡◌, ℕ, ◌+◌, ◌<◌, ◌≤◌, List, [], ◌∷◌, ◌++◌, drop, length, get_or, refl, sym, ap, ◌∙◌}
use Rattle.std.proofs.lemmas.List.{drop_all, at_drop_more}
use Rattle.cond_formula.specs.declared.formulas.Formula.{Formula}
use Rattle.cond_formula.specs.Conditions.{condition_of}
use Rattle.choice_trees.specs.declared.trees.Choice.{Choice}
use Rattle.choice_trees.specs.declared.trees.Item.{Item}
use Rattle.choice_trees.specs.ChoiceTrees.{PlainChoices, PlainBranches, no_choice, choice, no_branch, branch, plain_item, plain_branches, plain_choices}
use Rattle.changed_forests.specs.Changed.{Change, changed_item, changed_choices, changed_branches}

-- ---- some alternatives, and others behind them

abbrev pub branches_before : PlainBranches → PlainBranches → PlainBranches
branches_before no_branch behind = behind
branches_before (branch when item rest) behind = branch when item (branches_before rest behind)

branches_alone : (list : PlainBranches) → branches_before list no_branch ≡ list
branches_alone no_branch = refl
branches_alone (branch when item rest) = ap (branch when item) (branches_alone rest)

branch_more : (list : List (Formula × Item)) (f : Formula) (item : Item) (behind : PlainBranches)
    → branches_before (plain_branches (list ++ (f, item) ∷ [])) behind ≡ branches_before (plain_branches list) (branch (condition_of f) (plain_item item) behind)
branch_more [] f item behind = refl
branch_more (first ∷ rest) f item behind = ap (branch (condition_of first.0) (plain_item first.1)) (branch_more rest f item behind)

-- ---- some parts, and others behind them

abbrev pub choices_before : PlainChoices → PlainChoices → PlainChoices
choices_before no_choice behind = behind
choices_before (choice alternatives rest) behind = choice alternatives (choices_before rest behind)

choices_alone : (list : PlainChoices) → choices_before list no_choice ≡ list
choices_alone no_choice = refl
choices_alone (choice alternatives rest) = ap (choice alternatives) (choices_alone rest)

choice_more : (list : List (Choice Item)) (c : Choice Item) (behind : PlainChoices)
    → choices_before (plain_choices (list ++ c ∷ [])) behind ≡ choices_before (plain_choices list) (choice (plain_branches c.branches.items) behind)
choice_more [] c behind = refl
choice_more (first ∷ rest) c behind = ap (choice (plain_branches first.branches.items)) (choice_more rest c behind)

-- ---- how far a change has come

module _ (change : Change) where
  abbrev pub BranchesSoFar : List (Formula × Item) → ℕ → List (Formula × Item) → Type 0
  BranchesSoFar olds place done =
      branches_before (plain_branches done) (changed_branches change (plain_branches (drop place olds))) ≡ changed_branches change (plain_branches olds)

  pub branches_end : (olds : List (Formula × Item)) (place : ℕ) (done : List (Formula × Item)) → length olds ≤ place → BranchesSoFar olds place done
      → plain_branches done ≡ changed_branches change (plain_branches olds)
  branches_end olds place done past before =
      sym (branches_alone (plain_branches done))
      ∙ (ap (λ rest. branches_before (plain_branches done) (changed_branches change (plain_branches rest))) (sym (drop_all place olds past)) ∙ before)

  pub one_branch : (olds : List (Formula × Item)) (place : ℕ) (old : Formula × Item) → place < length olds → old ≡ get_or olds place old → (done : List (Formula × Item)) → BranchesSoFar olds place done
      → (f : Formula) (item : Item) → condition_of f ≡ condition_of old.0 → plain_item item ≡ changed_item change (plain_item old.1) → BranchesSoFar olds (place + 1) (done ++ (f, item) ∷ [])
  one_branch olds place old within is done before f item same changed =
      branch_more done f item (changed_branches change (plain_branches (drop (place + 1) olds)))
      ∙ (ap (λ when. branches_before (plain_branches done) (branch when (plain_item item) (changed_branches change (plain_branches (drop (place + 1) olds))))) same
      ∙ (ap (λ t. branches_before (plain_branches done) (branch (condition_of old.0) t (changed_branches change (plain_branches (drop (place + 1) olds))))) changed
      ∙ (ap (λ x. branches_before (plain_branches done) (changed_branches change (plain_branches (x ∷ drop (place + 1) olds)))) is
      ∙ (sym (at_drop_more (λ rest. branches_before (plain_branches done) (changed_branches change (plain_branches rest))) olds place old within) ∙ before))))

  abbrev pub PartsSoFar : List (Choice Item) → ℕ → List (Choice Item) → Type 0
  PartsSoFar olds place done =
      choices_before (plain_choices done) (changed_choices change (plain_choices (drop place olds))) ≡ changed_choices change (plain_choices olds)

  pub parts_end : (olds : List (Choice Item)) (place : ℕ) (done : List (Choice Item)) → length olds ≤ place → PartsSoFar olds place done
      → plain_choices done ≡ changed_choices change (plain_choices olds)
  parts_end olds place done past before =
      sym (choices_alone (plain_choices done))
      ∙ (ap (λ rest. choices_before (plain_choices done) (changed_choices change (plain_choices rest))) (sym (drop_all place olds past)) ∙ before)

  pub one_part : (olds : List (Choice Item)) (place : ℕ) (old : Choice Item) → place < length olds → old ≡ get_or olds place old → (done : List (Choice Item)) → PartsSoFar olds place done
      → (new : Choice Item) → plain_branches new.branches.items ≡ changed_branches change (plain_branches old.branches.items) → PartsSoFar olds (place + 1) (done ++ new ∷ [])
  one_part olds place old within is done before new changed =
      choice_more done new (changed_choices change (plain_choices (drop (place + 1) olds)))
      ∙ (ap (λ alternatives. choices_before (plain_choices done) (choice alternatives (changed_choices change (plain_choices (drop (place + 1) olds))))) changed
      ∙ (ap (λ x. choices_before (plain_choices done) (changed_choices change (plain_choices (x ∷ drop (place + 1) olds)))) is
      ∙ (sym (at_drop_more (λ rest. choices_before (plain_choices done) (changed_choices change (plain_choices rest))) olds place old within) ∙ before)))
