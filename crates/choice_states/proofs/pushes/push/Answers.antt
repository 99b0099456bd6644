use Rattle.std.proofs.Common.{None, ap, ◌∙◌}
use Rattle.std.specs.Bool.{if◌then◌else◌}
use Rattle.choice_states.specs.Seen.{choice_seen}
use Rattle.choice_states.proofs.pushes.push.Goals as goal

pub returns-clause-pushed : goal.returns-clause-pushed
returns-clause-pushed c = λ on v here some within.
    c.in_ok-push_part.ensures.pushed on v (c.in_ok-part.ensures on ∙ ap (λ b. if b then choice_seen on c.args.part else None) here ∙ some) within
