use Rattle.std.proofs.Common.{List, Bor}
use Rattle.c_tree.specs.declared.kinds.Kind.TheVariants as k
use Rattle.c_tree.specs.Trees.{node, none}
use Rattle.choice_trees.specs.declared.trees.Choice.{Choice}
use Rattle.choice_trees.specs.declared.trees.Item.{Item}
use Rattle.choice_trees.specs.ChoiceTrees.{plain_item, plain_choices, item_at, parts_at}
use Rattle.choice_variants.specs.Variants.{before}
use Rattle.cond_types.specs.Places.{tree_at}
use Rattle.cond_types.proofs.Places.{list_there, none_in_empty}
use Rattle.cond_types.proofs.parts.members_in.Goals as goal

pub returns-in_default : goal.returns-in_default
returns-in_default c = λ on. none_in_empty k.Members (tree_at c.args.place (before on c.args.parts.now none)) (c.in_default.ensures on)

pub returns : goal.returns
returns c = λ on.
    list_there (λ (l : Bor (List (Choice Item))). node k.Members (parts_at on k.Members 0 (plain_choices l.now))) k.Members c.members_of.result (item_at on (plain_item c.in-Some.item.now))
    (tree_at c.args.place (before on c.args.parts.now none)) (c.in-Some.ensures on) (c.members_of.ensures on)
