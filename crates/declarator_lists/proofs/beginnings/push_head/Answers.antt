use Rattle.cond_formula.specs.Features.{has}
use Rattle.declarator_lists.specs.Entries.{head_at}
use Rattle.declarator_lists.proofs.Pushing.{pushed}
use Rattle.declarator_lists.proofs.beginnings.push_head.Goals as goal

pub returns-clause-adds : goal.returns-clause-adds
returns-clause-adds g c = λ n admitted. pushed (has n) (head_at (has n)) (record { when = c.args.when; beginning = c.args.beginning }) c.args.all.now.items c.push.new.self.items c.in_ok-push.ensures.items
