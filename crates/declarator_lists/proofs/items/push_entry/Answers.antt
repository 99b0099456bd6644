use Rattle.cond_formula.specs.Features.{has}
use Rattle.declarator_lists.specs.Entries.{entry_at}
use Rattle.declarator_lists.proofs.Pushing.{pushed}
use Rattle.declarator_lists.proofs.items.push_entry.Goals as goal

pub returns-clause-adds : goal.returns-clause-adds
returns-clause-adds g c = λ n admitted. pushed (has n) (entry_at (has n)) (record { when = c.args.when; item = c.args.item }) c.args.all.now.items c.push.new.self.items c.in_ok-push.ensures.items
