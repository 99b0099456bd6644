-- Alternatives that have been set apart: where `on` says which features are on, the same is seen, and they exclude each other.
use Rattle.std.specs.Prelude.{◌≡◌, ℕ, ◌≤◌, Bool, false, ◌||◌, List, Option, Some, None, if◌then◌else◌}
use Rattle.cond_formula.specs.Conditions.{value}
use Rattle.choice_trees.specs.declared.trees.Forest.{Forest}
use Rattle.choice_trees.specs.ChoiceTrees.{PlainItem, PlainChoices, PlainBranches, no_choice, choice, no_branch, branch, item_at, forest_at}
use Rattle.choice_trees.specs.Leaves.{Leaf, item_leaves, forest_leaves}
use Rattle.exclusive_forests.specs.Exclusions.{holding, ItemExcludes, EachExcludes, ForestExcludes}

module _ (on : ℕ → Bool) where
  abbrev pub any_holds : PlainBranches → Bool
  any_holds no_branch = false
  any_holds (branch when item rest) = value on when || any_holds rest

  -- the first alternative that holds
  abbrev pub found : PlainBranches → Option PlainItem
  found no_branch = None
  found (branch when item rest) = if value on when then Some item else found rest

  pub record ItemApart (old new : PlainItem) : Type 0 where
    pub tree_is : item_at on new ≡ item_at on old
    pub leaves_are : (behind : List Leaf) → item_leaves on new behind ≡ item_leaves on old behind
    pub excludes : ItemExcludes on new

  abbrev pub FoundApart : Option PlainItem → Option PlainItem → Type 0
  FoundApart None None = Unit {0}
  FoundApart (Some old) None = ⊥
  FoundApart None (Some new) = ⊥
  FoundApart (Some old) (Some new) = ItemApart old new

  pub record ChoiceApart (old new : PlainBranches) : Type 0 where
    pub found_is : FoundApart (found old) (found new)
    pub one : holding on new ≤ 1
    pub each : EachExcludes on new

  -- part by part
  abbrev pub PartsApart : PlainChoices → PlainChoices → Type 0
  PartsApart no_choice no_choice = Unit {0}
  PartsApart no_choice (choice new news) = ⊥
  PartsApart (choice old olds) no_choice = ⊥
  PartsApart (choice old olds) (choice new news) = ChoiceApart old new × PartsApart olds news

  pub record ForestApart (old new : Forest) : Type 0 where
    pub tree_is : forest_at on new ≡ forest_at on old
    pub leaves_are : forest_leaves on new ≡ forest_leaves on old
    pub excludes : ForestExcludes on new
