-- How deep items are, by which their projection is seen to end.
use Rattle.std.specs.Prelude.{ℕ, suc, max}
use Rattle.choice_trees.specs.ChoiceTrees.{PlainItem, PlainChoices, PlainBranches, token, inner, no_choice, choice, no_branch, branch}

abbrev mutual
  pub depth : PlainItem → ℕ
  depth (token number text) = 0
  depth (inner kind parts) = suc (choices_depth parts)

  pub choices_depth : PlainChoices → ℕ
  choices_depth no_choice = 0
  choices_depth (choice alternatives rest) = max (branches_depth alternatives) (choices_depth rest)

  pub branches_depth : PlainBranches → ℕ
  branches_depth no_branch = 0
  branches_depth (branch when item rest) = max (depth item) (branches_depth rest)
