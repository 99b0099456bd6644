-- Proofs, no part of the definitions: the plain form of each kind of item.
use Rattle.std.proofs.Common.{◌≡◌, ℕ, List, [], ◌∷◌, map, refl, sym, ap, ◌∙◌}
use Rattle.std.specs.declared.alloc.Global.{Global}
use Rattle.std.specs.Prelude.{Vec}
use Rattle.c_text.specs.declared.token.Token.{Token}
use Rattle.c_text.specs.Token.{plain_token}
use Rattle.c_tree.specs.declared.kinds.Kind.{Kind}
use Rattle.c_tree.specs.TreeLaws.{plain_tree-Leaf, plain_tree-Node}
use Rattle.choice_trees.specs.declared.trees.Choice.{Choice}
use Rattle.choice_trees.specs.declared.trees.Item.{Item, Leaf, Node}
use Rattle.choice_trees.specs.declared.trees.Item.TheVariants.{rolls-Leaf, rolls-Node}
use Rattle.choice_trees.specs.declared.trees.Item.TheFolds.{fold-roll-Item}
use Rattle.choice_trees.specs.declared.trees.Item.TheOpen as level
use Rattle.choice_trees.specs.declared.trees.Item.TheShapes as shape
use Rattle.choice_trees.specs.ChoiceTrees.{PlainItem, token, inner, choice, choices, plain_branches, one_level, plain_item, plain_choices}

pub plain_item-Leaf : (number : ℕ) (text : Token) → plain_item (Leaf number text) ≡ token number (plain_token text)
unfolding plain_item
plain_item-Leaf number text = ap plain_item (sym (rolls-Leaf number text)) ∙ fold-roll-Item PlainItem one_level (level.Leaf number text)

same_choices : (list : List (Choice Item)) → choices (map (shape.former-Item-Node-1-at-4.map Item PlainItem plain_item) list) ≡ plain_choices list
same_choices [] = refl
same_choices (first ∷ rest) = ap (choice (plain_branches first.branches.items)) (same_choices rest)

pub plain_item-Node : (kind : Kind) (parts : Vec (Choice Item) Global) → plain_item (Node kind parts) ≡ inner kind (plain_choices parts.items)
unfolding plain_item
plain_item-Node kind parts = ap plain_item (sym (rolls-Node kind parts)) ∙ fold-roll-Item PlainItem one_level (level.Node kind parts) ∙ ap (inner kind) (same_choices parts.items)

pub ruleset item_kinds = (plain_item-Leaf, plain_item-Node, plain_tree-Leaf, plain_tree-Node)
