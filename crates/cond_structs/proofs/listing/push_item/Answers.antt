use Rattle.std.proofs.Common.{◌++◌, sym, ap, ◌∙◌}
use Rattle.cond_formula.specs.Features.{has}
use Rattle.cond_formula.specs.Conditions.{condition_of, value}
use Rattle.conditional.specs.Entries.{seen, under}
use Rattle.choice_trees.specs.ChoiceTrees.{plain_item, item_at}
use Rattle.choice_trees.specs.ItemLaws.{plain_item-Leaf}
use Rattle.cond_structs.specs.Walks.{parts_in}
use Rattle.cond_structs.specs.Listing.{declarations_at}
use Rattle.cond_structs.proofs.Listed.{nothing_more}
use Rattle.cond_structs.proofs.listing.push_item.Goals as goal

pub returns-in-Leaf-clause-adds : goal.returns-in-Leaf-clause-adds
returns-in-Leaf-clause-adds g c = λ n admitted.
    nothing_more (value (has n) (condition_of c.args.here.now)) (seen (has n) (declarations_at (has n) c.args.all.now.items))
    ∙ ap (λ i. seen (has n) (declarations_at (has n) c.args.all.now.items) ++ under (value (has n) (condition_of c.args.here.now)) (parts_in (item_at (has n) i))) (sym (ap plain_item c.in-Leaf.is ∙ plain_item-Leaf c.in-Leaf.field-0 c.in-Leaf.field-1))
