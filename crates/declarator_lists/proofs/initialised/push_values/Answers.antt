use Rattle.std.proofs.Common.{◌++◌, map, ap, ◌∙◌}
use Rattle.cond_formula.specs.Features.{has}
use Rattle.cond_formula.specs.Conditions.{condition_of, value}
use Rattle.conditional.specs.Entries.{first, seen}
use Rattle.declarator_lists.specs.Entries.{entries_at, heads_at, all_initialised_at}
use Rattle.declarator_lists.proofs.Pushing.{given_under}
use Rattle.declarator_lists.proofs.initialised.push_values.Goals as goal

pub returns-clause-adds : goal.returns-clause-adds
returns-clause-adds g c = λ n admitted.
    c.in_ok-push_firsts.ensures (has n)
    ∙ (ap (λ list. seen (has n) (all_initialised_at (has n) c.args.all.now.items) ++ map first (seen (has n) (heads_at (has n) list))) c.deref.ensures.value
    ∙ (ap (λ list. seen (has n) (all_initialised_at (has n) c.args.all.now.items) ++ map first list) (c.in_ok-values.ensures.alone n admitted)
    ∙ ap (λ list. seen (has n) (all_initialised_at (has n) c.args.all.now.items) ++ list)
    (given_under first (value (has n) (condition_of c.args.when.now)) (seen (has n) (entries_at (has n) c.args.rest.now)))))
