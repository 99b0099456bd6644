use Rattle.std.proofs.Common.{inl, Bor}
use Rattle.c_tree.specs.Trees.{none}
use Rattle.choice_trees.specs.declared.trees.Item.{Item}
use Rattle.choice_trees.specs.ChoiceTrees.{plain_item, item_at}
use Rattle.choice_variants.specs.Variants.{part_at, before}
use Rattle.cond_types.specs.Places.{tree_at}
use Rattle.cond_unit_uses.proofs.Places.{none_beyond, one_there, found_there}
use Rattle.cond_unit_uses.proofs.parts.item_in.Goals as goal

pub returns-then-place-parts : goal.returns-then-place-parts
returns-then-place-parts c = λ on. inl (none_beyond on c.args.parts.now c.args.place c.if-place-parts.true)

pub returns : goal.returns
returns c = λ on.
    found_there (λ (item : Bor Item). item_at on (plain_item item.now)) c.item_of.result (part_at on c.index-parts-place.result) (tree_at c.args.place (before on c.args.parts.now none))
    (one_there on c.args.parts.now c.args.place c.index-parts-place.result c.if-place-parts.false c.index-parts-place.is) (c.item_of.ensures on)
