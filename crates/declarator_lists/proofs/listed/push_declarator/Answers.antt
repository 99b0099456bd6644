use Rattle.std.proofs.Common.{◌++◌, map, ap, ◌∙◌}
use Rattle.cond_formula.specs.Features.{has}
use Rattle.cond_formula.specs.Conditions.{condition_of, value}
use Rattle.conditional.specs.Entries.{seen}
use Rattle.choice_trees.specs.ChoiceTrees.{plain_item, item_at}
use Rattle.declarator_lists.specs.Lists.{declared, initialiser_in}
use Rattle.declarator_lists.specs.Entries.{entries_at, all_initialised_at, listed_at}
use Rattle.declarator_lists.proofs.Pushing.{given_under}
use Rattle.declarator_lists.proofs.listed.push_declarator.Goals as goal

pub returns-clause-adds : goal.returns-clause-adds
returns-clause-adds g c = λ n admitted.
    c.in_ok-push_each.ensures (has n)
    ∙ (ap (λ list. seen (has n) (listed_at (has n) c.args.all.now.items) ++ map (declared (item_at (has n) (plain_item c.args.entry.now.item.now))) (seen (has n) (all_initialised_at (has n) list))) c.deref.ensures.value
    ∙ (ap (λ list. seen (has n) (listed_at (has n) c.args.all.now.items) ++ map (declared (item_at (has n) (plain_item c.args.entry.now.item.now))) list) (c.in_ok-initialised.ensures.alone n admitted)
    ∙ ap (λ list. seen (has n) (listed_at (has n) c.args.all.now.items) ++ list)
    (given_under (declared (item_at (has n) (plain_item c.args.entry.now.item.now))) (value (has n) (condition_of c.args.entry.now.when)) (initialiser_in (seen (has n) (entries_at (has n) c.args.behind.now))))))
