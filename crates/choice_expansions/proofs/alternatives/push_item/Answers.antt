use Rattle.std.proofs.Common.{◌++◌, map, Some, ap, ◌∙◌}
use Rattle.cond_formula.specs.Features.{has}
use Rattle.cond_formula.specs.Conditions.{condition_of, value}
use Rattle.conditional.specs.Entries.{seen, under}
use Rattle.choice_expansions.specs.Expansions.{expanded, parts_expanded}
use Rattle.choice_expansions.proofs.alternatives.push_item.Goals as goal

pub returns-clause-adds : goal.returns-clause-adds
returns-clause-adds g c = λ n admitted.
    c.in_ok-push_trees.ensures.adds n (ap (value (has n)) c.in_ok-expansions.ensures.kept ∙ admitted)
    ∙ ap (λ trees. seen (has n) (parts_expanded c.args.all.now.items) ++ under (value (has n) (condition_of c.args.here.now)) (map Some trees))
    (ap (λ list. seen (has n) (expanded list)) c.deref.ensures.value ∙ c.in_ok-expansions.ensures.alone n admitted)
