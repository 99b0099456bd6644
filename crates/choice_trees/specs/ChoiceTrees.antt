-- Trees with alternatives without pointers and room in memory, and what a configuration sees of them.
use Rattle.std.specs.Prelude.{ℕ, suc, Bool, true, false, ◌==◌, List, [], ◌∷◌, map, codes, length, Option, Some, None, if◌then◌else◌}
use Rattle.cond_formula.specs.Conditions.{Condition, value, condition_of}
use Rattle.cond_formula.specs.declared.formulas.Formula.{Formula}
use Rattle.c_text.specs.declared.origin.Place.TheVariants as place
use Rattle.c_text.specs.declared.token.TokenKind.TheVariants.{Punctuator}
use Rattle.c_text.specs.Token.{PlainOrigin, PlainToken, plain_token}
use Rattle.c_text.specs.Preprocessing.{built_in_file, built_in_text}
use Rattle.c_tree.specs.declared.kinds.Kind.{Kind}
use Rattle.c_tree.specs.declared.kinds.Kind.TheVariants.{Unit, If, Else, While, Do, For, ExpressionStatement}
use Rattle.c_tree.specs.Trees.{PlainTree, PlainTrees, leaf, node, none, more, absent}
use Rattle.choice_trees.specs.declared.trees.Choice.{Choice}
use Rattle.choice_trees.specs.declared.trees.Item.{Item}
use Rattle.choice_trees.specs.declared.trees.Item.TheOpen.{Item-F, Leaf, Node}
use Rattle.choice_trees.specs.declared.trees.Item.TheFolds.{fold-Item}
use Rattle.choice_trees.specs.declared.trees.Forest.{Forest}

mutual
  -- a token with its number in the unit's stream, or a node with alternatives for each of its parts
  pub data PlainItem : Type 0 where
    token : ℕ → PlainToken → PlainItem
    inner : Kind → PlainChoices → PlainItem

  pub data PlainChoices : Type 0 where
    no_choice : PlainChoices
    choice : PlainBranches → PlainChoices → PlainChoices

  pub data PlainBranches : Type 0 where
    no_branch : PlainBranches
    branch : Condition → PlainItem → PlainBranches → PlainBranches

abbrev pub branches : List (Formula × PlainItem) → PlainBranches
branches [] = no_branch
branches (first ∷ rest) = branch (condition_of first.0) first.1 (branches rest)

abbrev pub choices : List (Choice PlainItem) → PlainChoices
choices [] = no_choice
choices (first ∷ rest) = choice (branches first.branches.items) (choices rest)

abbrev pub one_level : Item-F PlainItem → PlainItem
one_level (Leaf number text) = token number (plain_token text)
one_level (Node kind parts) = inner kind (choices parts.items)

-- an item's plain form
unfoldable pub plain_item : Item → PlainItem
plain_item = fold-Item PlainItem one_level

-- ---- what a configuration sees

-- Whether the part of a node with this place, from 0, is a statement that no grammar leaves out (6.8.4, 6.8.5).
abbrev pub needs_statement : Kind → ℕ → Bool
needs_statement If place = place == 4
needs_statement Else place = place == 1
needs_statement While place = place == 4
needs_statement Do place = place == 1
needs_statement For place = place == 7
needs_statement other place = false

-- where a token stands that comes from no text: at the end of the built-in file
abbrev pub nowhere : PlainOrigin
nowhere = record {
  file = built_in_file;
  span = record { start = length built_in_text; end = length built_in_text };
  place = place.MacroBody;
  site = record { start = length built_in_text; end = length built_in_text };
  site_file = built_in_file;
}

-- the `;` that stands for a statement where there is none
abbrev pub semicolon : PlainToken
semicolon = record { kind = Punctuator; text = codes ";"; joined = false; origin = nowhere }

abbrev pub no_statement : PlainTree
no_statement = node ExpressionStatement (more absent (more (leaf semicolon) none))

-- a part, if one of its alternatives holds; else a `;` where a statement is needed, and nothing elsewhere
abbrev pub with_part : Bool → Option PlainTree → PlainTrees → PlainTrees
with_part needed (Some part) rest = more part rest
with_part true None rest = more no_statement rest
with_part false None rest = rest

module _ (on : ℕ → Bool) where
  -- The tree of an item, the parts of a node from one place on, and the alternative that holds.
  abbrev mutual
    pub item_at : PlainItem → PlainTree
    item_at (token number text) = leaf text
    item_at (inner kind parts) = node kind (parts_at kind 0 parts)

    pub parts_at : Kind → ℕ → PlainChoices → PlainTrees
    parts_at kind place no_choice = none
    parts_at kind place (choice alternatives rest) = with_part (needs_statement kind place) (branch_at alternatives) (parts_at kind (suc place) rest)

    pub branch_at : PlainBranches → Option PlainTree
    branch_at no_branch = None
    branch_at (branch when item rest) = if value on when then Some (item_at item) else branch_at rest

abbrev pub plain_branches : List (Formula × Item) → PlainBranches
plain_branches list = branches (map (λ b. (b.0, plain_item b.1)) list)

abbrev pub plain_choices : List (Choice Item) → PlainChoices
plain_choices [] = no_choice
plain_choices (first ∷ rest) = choice (plain_branches first.branches.items) (plain_choices rest)

-- the tree of a unit
abbrev pub forest_at : (ℕ → Bool) → Forest → PlainTree
forest_at on forest = node Unit (parts_at on Unit 0 (plain_choices forest.items.items))
