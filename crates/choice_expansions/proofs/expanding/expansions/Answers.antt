use Rattle.cond_formula.specs.Features.{has}
use Rattle.choice_trees.specs.ChoiceTrees.{plain_item, item_at}
use Rattle.choice_variants.proofs.Adding.{stands_alone}
use Rattle.choice_expansions.specs.Expansions.{expanded}
use Rattle.choice_expansions.proofs.expanding.expansions.Goals as goal

pub returns-clause-stands : goal.returns-clause-stands
returns-clause-stands g c = λ n admitted.
    stands_alone (has n) (item_at (has n) (plain_item c.args.item.now)) (expanded c.in_ok-all.all.items) (c.in_ok-all.ensures.alone n admitted)
