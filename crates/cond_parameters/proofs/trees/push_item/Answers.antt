use Rattle.std.proofs.Common.{◌++◌, ap, ◌∙◌}
use Rattle.cond_formula.specs.Features.{has}
use Rattle.cond_formula.specs.Conditions.{condition_of, value}
use Rattle.conditional.specs.Entries.{seen, under}
use Rattle.choice_expansions.specs.Expansions.{expanded}
use Rattle.cond_parameters.proofs.trees.push_item.Goals as goal

pub returns-clause-adds : goal.returns-clause-adds
returns-clause-adds g c = λ n admitted.
    c.in_ok-push_trees.ensures.adds n (ap (value (has n)) c.in_ok-trees.ensures.kept ∙ admitted)
    ∙ ap (λ list. seen (has n) (expanded c.args.all.now.items) ++ under (value (has n) (condition_of c.args.here.now)) list)
    (ap (λ list. seen (has n) (expanded list)) c.deref.ensures.value ∙ c.in_ok-trees.ensures.alone n admitted)
