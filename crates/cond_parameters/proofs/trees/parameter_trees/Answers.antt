use Rattle.std.proofs.Common.{refl, ap, ◌∙◌}
use Rattle.cond_formula.specs.Features.{has}
use Rattle.cond_formula.specs.Conditions.{condition_of, value}
use Rattle.conditional.specs.Entries.{seen, under}
use Rattle.c_tree.specs.declared.kinds.Kind.TheVariants.{Parameters}
use Rattle.declarator_lists.specs.Entries.{entries_at}
use Rattle.cond_parameters.specs.Readings.{parameters_among}
use Rattle.cond_parameters.proofs.trees.parameter_trees.Goals as goal

pub returns-clause-seen : goal.returns-clause-seen
returns-clause-seen g c = λ n admitted.
    c.in_ok-trees.ensures.adds n (ap (value (has n)) c.in_ok-all.ensures.kept ∙ admitted)
    ∙ ap (λ list. under (value (has n) (condition_of c.args.when.now)) (parameters_among list))
    (ap (λ list. seen (has n) (entries_at (has n) list)) c.deref.ensures.value ∙ c.in_ok-all.ensures.seen n Parameters admitted (λ place. refl))
