use Rattle.std.proofs.Common.{None}
use Rattle.cond_formula.specs.Features.{has}
use Rattle.choice_expansions.proofs.Choosing.{part_added}
use Rattle.choice_expansions.proofs.alternatives.push_nothing.Goals as goal

pub returns-clause-adds : goal.returns-clause-adds
returns-clause-adds g c = λ n admitted.
    part_added (has n) (record { when = c.args.when; tree = None }) c.args.all.now.items c.push.new.self.items c.in_ok-push.ensures.items
