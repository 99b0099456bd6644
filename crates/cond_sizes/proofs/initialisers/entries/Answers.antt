use Rattle.std.proofs.Common.{subst}
use Rattle.cond_formula.specs.Features.{has}
use Rattle.choice_trees.specs.ChoiceTrees.{plain_choices, parts_at}
use Rattle.cond_sizes.specs.Sizes.{ShowsCount}
use Rattle.cond_sizes.specs.Totals.{total, one_each, half_up}
use Rattle.cond_sizes.proofs.Adding.{half_of_total}
use Rattle.cond_sizes.proofs.initialisers.entries.Goals as goal

pub returns-clause-shows : goal.returns-clause-shows
returns-clause-shows g c = λ n admitted.
    subst (λ s. ShowsCount (has n) s c.in_ok-counts.counts) (half_of_total (parts_at (has n) c.args.kind 0 (plain_choices c.args.parts.now)))
    (c.in_ok-counts.ensures half_up (record { maps = λ x y is. is }) (has n) (total one_each (parts_at (has n) c.args.kind 0 (plain_choices c.args.parts.now))) (c.in_ok-total.ensures.shows n admitted))
