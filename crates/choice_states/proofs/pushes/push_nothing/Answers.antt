use Rattle.std.proofs.Common.{Some, ap, ◌∙◌}
use Rattle.choice_states.specs.Seen.{nothing_seen}
use Rattle.choice_states.proofs.pushes.push_nothing.Goals as goal

pub returns-clause-pushed : goal.returns-clause-pushed
returns-clause-pushed c = λ on here within.
    c.in_ok-push.ensures.pushed on nothing_seen here (c.in_ok-part.ensures on ∙ ap Some (c.nothing.ensures on)) within
