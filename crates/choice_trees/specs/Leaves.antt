-- The tokens that a configuration sees of trees with alternatives, in the order of the text.
use Rattle.std.specs.Prelude.{◌≡◌, ℕ, suc, Bool, true, false, List, [], ◌∷◌, Option, Some, None, map, if◌then◌else◌}
use Rattle.cond_formula.specs.Conditions.{value}
use Rattle.c_text.specs.Token.{PlainToken}
use Rattle.c_tree.specs.declared.kinds.Kind.{Kind}
use Rattle.c_tree.specs.declared.kinds.Kind.TheVariants.{Unit}
use Rattle.c_tree.specs.Trees.{spelled}
use Rattle.choice_trees.specs.declared.trees.Forest.{Forest}
use Rattle.choice_trees.specs.ChoiceTrees.{PlainItem, PlainChoices, PlainBranches, token, inner, no_choice, choice, no_branch, branch, plain_choices, needs_statement, semicolon, forest_at}

pub record Leaf : Type 0 where
  -- its number in the unit's stream; a `;` that stands for a statement where there is none has no number
  pub number : Option ℕ
  pub text : PlainToken

module _ (on : ℕ → Bool) where
  -- The leaves of an item, and leaves behind them.
  abbrev mutual
    pub item_leaves : PlainItem → List Leaf → List Leaf
    item_leaves (token number text) behind = record { number = Some number; text = text } ∷ behind
    item_leaves (inner kind parts) behind = parts_leaves kind 0 parts behind

    pub parts_leaves : Kind → ℕ → PlainChoices → List Leaf → List Leaf
    parts_leaves kind place no_choice behind = behind
    parts_leaves kind place (choice alternatives rest) behind = branch_leaves (needs_statement kind place) alternatives (parts_leaves kind (suc place) rest behind)

    pub branch_leaves : Bool → PlainBranches → List Leaf → List Leaf
    branch_leaves true no_branch behind = record { number = None; text = semicolon } ∷ behind
    branch_leaves false no_branch behind = behind
    branch_leaves needed (branch when item rest) behind = if value on when then item_leaves item behind else branch_leaves needed rest behind

  -- the leaves of a unit
  abbrev pub forest_leaves : Forest → List Leaf
  forest_leaves forest = parts_leaves Unit 0 (plain_choices forest.items.items) []

abbrev pub texts : List Leaf → List PlainToken
texts leaves = map (λ leaf. leaf.text) leaves

-- The tokens that a configuration sees are those that its tree spells, in their order.
abbrev pub LeavesAreSpelled : Type 0
LeavesAreSpelled = (on : ℕ → Bool) (forest : Forest) → texts (forest_leaves on forest) ≡ spelled (forest_at on forest)
