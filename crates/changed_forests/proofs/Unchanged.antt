-- Where each token stays what it is, so do the trees.
use Rattle.std.proofs.Common.{◌≡◌, refl, ap, ◌∙◌}
use Rattle.choice_trees.specs.ChoiceTrees.{PlainItem, PlainChoices, PlainBranches, token, inner, no_choice, choice, no_branch, branch}
use Rattle.changed_forests.specs.Changed.{changed_item, changed_choices, changed_branches}

mutual
  same_item : (item : PlainItem) → changed_item (λ number t. t) item ≡ item
  same_item (token number t) = refl
  same_item (inner kind parts) = ap (inner kind) (nothing_changed parts)

  pub nothing_changed : (parts : PlainChoices) → changed_choices (λ number t. t) parts ≡ parts
  nothing_changed no_choice = refl
  nothing_changed (choice alternatives rest) = ap (λ a. choice a (changed_choices (λ number t. t) rest)) (same_branches alternatives) ∙ ap (choice alternatives) (nothing_changed rest)

  same_branches : (alternatives : PlainBranches) → changed_branches (λ number t. t) alternatives ≡ alternatives
  same_branches no_branch = refl
  same_branches (branch when item rest) = ap (λ i. branch when i (changed_branches (λ number t. t) rest)) (same_item item) ∙ ap (branch when item) (same_branches rest)
