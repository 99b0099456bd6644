-- Alternatives that exclude each other, where `on` says which features are on.
use Rattle.std.specs.Prelude.{ℕ, ◌+◌, ◌≤◌, Bool, if◌then◌else◌}
use Rattle.cond_formula.specs.Conditions.{value}
use Rattle.choice_trees.specs.declared.trees.Forest.{Forest}
use Rattle.choice_trees.specs.ChoiceTrees.{PlainItem, PlainChoices, PlainBranches, token, inner, no_choice, choice, no_branch, branch, plain_choices}

module _ (on : ℕ → Bool) where
  -- how many of some alternatives hold
  abbrev pub holding : PlainBranches → ℕ
  holding no_branch = 0
  holding (branch when item rest) = (if value on when then 1 else 0) + holding rest

  -- No two alternatives for a part hold together, of whatever part in an item, in the parts of a node, or in some alternatives.
  abbrev mutual
    pub ItemExcludes : PlainItem → Type 0
    ItemExcludes (token number text) = Unit {0}
    ItemExcludes (inner kind parts) = PartsExclude parts

    pub PartsExclude : PlainChoices → Type 0
    PartsExclude no_choice = Unit {0}
    PartsExclude (choice alternatives rest) = (holding alternatives ≤ 1) × EachExcludes alternatives × PartsExclude rest

    pub EachExcludes : PlainBranches → Type 0
    EachExcludes no_branch = Unit {0}
    EachExcludes (branch when item rest) = ItemExcludes item × EachExcludes rest

  -- of whatever part in a unit
  abbrev pub ForestExcludes : Forest → Type 0
  ForestExcludes forest = PartsExclude (plain_choices forest.items.items)
