-- Trees with alternatives in which each token is changed by a rule, whatever alternative is seen. Numbers and conditions stay.
use Rattle.std.specs.Prelude.{◌≡◌, ℕ, Option, Some, None}
use Rattle.c_text.specs.Token.{PlainToken}
use Rattle.choice_trees.specs.declared.trees.Forest.{Forest}
use Rattle.choice_trees.specs.ChoiceTrees.{PlainItem, PlainChoices, PlainBranches, token, inner, no_choice, choice, no_branch, branch, plain_choices}
use Rattle.choice_trees.specs.Leaves.{Leaf}

-- what a token becomes that has a number in the unit's stream
abbrev pub Change : Type 0
Change = ℕ → PlainToken → PlainToken

module _ (change : Change) where
  abbrev mutual
    pub changed_item : PlainItem → PlainItem
    changed_item (token number t) = token number (change number t)
    changed_item (inner kind parts) = inner kind (changed_choices parts)

    pub changed_choices : PlainChoices → PlainChoices
    changed_choices no_choice = no_choice
    changed_choices (choice alternatives rest) = choice (changed_branches alternatives) (changed_choices rest)

    pub changed_branches : PlainBranches → PlainBranches
    changed_branches no_branch = no_branch
    changed_branches (branch when item rest) = branch when (changed_item item) (changed_branches rest)

  -- a `;` that stands for a statement where there is none has no number, and stays
  abbrev pub changed_text : Option ℕ → PlainToken → PlainToken
  changed_text None t = t
  changed_text (Some number) t = change number t

  abbrev pub changed_leaf : Leaf → Leaf
  changed_leaf leaf = record leaf { text = changed_text leaf.number leaf.text }

  -- the trees of the one are those of the other so changed, whatever stands for a part that is left out
  abbrev pub IsChanged : Forest → Forest → Type 0
  IsChanged old new = plain_choices new.items.items ≡ changed_choices (plain_choices old.items.items)
