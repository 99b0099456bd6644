-- What is seen of trees with alternatives, where `on` says which features are on: the tree, and its leaves with their numbers.
use Rattle.std.specs.Prelude.{ℕ, Bool, List, [], ◌∷◌, ◌++◌, map, Option, Some, None, if◌then◌else◌}
use Rattle.cond_formula.specs.Conditions.{value}
use Rattle.c_text.specs.Token.{PlainToken}
use Rattle.c_tree.specs.declared.kinds.Kind.{Kind}
use Rattle.c_tree.specs.Trees.{PlainTree, leaf, node, trees, absent}
use Rattle.c_tree.specs.Machine.{Making}
use Rattle.choice_trees.specs.declared.trees.Choice.{Choice}
use Rattle.choice_trees.specs.declared.trees.Item.{Item}
use Rattle.choice_trees.specs.ChoiceTrees.{PlainItem, PlainChoices, PlainBranches, no_choice, choice, no_branch, branch, plain_branches, plain_choices, item_at}
use Rattle.choice_trees.specs.Leaves.{Leaf, item_leaves}

pub record Seen : Type 0 where
  pub tree : PlainTree
  pub leaves : List Leaf

abbrev pub leaves_of : List Seen → List Leaf
leaves_of [] = []
leaves_of (first ∷ rest) = first.leaves ++ leaves_of rest

abbrev pub token_seen : Option ℕ → PlainToken → Seen
token_seen number token = record { tree = leaf token; leaves = record { number = number; text = token } ∷ [] }

abbrev pub node_seen : Kind → List Seen → Seen
node_seen kind parts = record { tree = node kind (trees (map (λ part. part.tree) parts)); leaves = leaves_of parts }

abbrev pub nothing_seen : Seen
nothing_seen = record { tree = absent; leaves = [] }

-- The reader makes trees with leaves as it makes trees; a token that it makes itself has no number.
abbrev pub of_seen : Making Seen
of_seen = record { of_token = token_seen None; of_parts = node_seen; of_nothing = nothing_seen }

-- The parts of a node, by their places: what is there of each. Behind the last that is there is none.
abbrev pub Parts : Type 0
Parts = List (Option Seen)

abbrev pub in_front : Option Seen → Parts → Parts
in_front None [] = []
in_front None (second ∷ rest) = None ∷ second ∷ rest
in_front (Some first) rest = Some first ∷ rest

module _ (on : ℕ → Bool) where
  abbrev pub seen_at : PlainItem → Seen
  seen_at item = record { tree = item_at on item; leaves = item_leaves on item [] }

  -- the alternative that holds
  abbrev pub branch_seen : PlainBranches → Option Seen
  branch_seen no_branch = None
  branch_seen (branch when item rest) = if value on when then Some (seen_at item) else branch_seen rest

  abbrev pub choice_seen : Choice Item → Option Seen
  choice_seen part = branch_seen (plain_branches part.branches.items)

  abbrev pub parts_seen : PlainChoices → Parts
  parts_seen no_choice = []
  parts_seen (choice alternatives rest) = in_front (branch_seen alternatives) (parts_seen rest)

  abbrev pub seen_in : List (Choice Item) → Parts
  seen_in parts = parts_seen (plain_choices parts)
