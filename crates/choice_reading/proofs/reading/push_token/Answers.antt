use Rattle.std.proofs.Common.{Some, ap, ◌∙◌}
use Rattle.choice_settling.specs.Steps.{seen_of}
use Rattle.choice_reading.proofs.reading.push_token.Goals as goal

pub returns-clause-pushed : goal.returns-clause-pushed
returns-clause-pushed c = λ on here within.
    c.in_ok-push.ensures.pushed on (seen_of c.args.reading.number c.args.reading.token.now) here (c.in_ok-part.ensures on ∙ ap Some (c.in_ok-item.ensures on)) within
