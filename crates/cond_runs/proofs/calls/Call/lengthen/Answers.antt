use Rattle.cond_formula.specs.Conditions.{condition_of, value}
use Rattle.cond_bodies.specs.CondItems.{item_at, items_at}
use Rattle.cond_bodies.proofs.ItemLemmas.{seen_pushed}
use Rattle.cond_runs.specs.CondCalls.{call_at}
use Rattle.cond_runs.proofs.RunLemmas.{call_lengthened}
use Rattle.cond_runs.proofs.calls.Call.lengthen.Goals as goal

pub returns-clause-call : goal.returns-clause-call
unfolding call_at
returns-clause-call c = λ on.
    call_lengthened (call_at on c.args.self.now) (value on (condition_of c.args.when)) (item_at on c.args.what) (items_at on c.push.new.self.items) (seen_pushed (item_at on) on _ _ _ c.in_ok-push.ensures.items)
