use Rattle.cond_formula.specs.Conditions.{condition_of, value}
use Rattle.cond_bodies.specs.CondItems.{items_at}
use Rattle.cond_runs.specs.CondCalls.{held_at, calls_at}
use Rattle.cond_runs.specs.CondRuns.{run_at}
use Rattle.cond_runs.proofs.RunLemmas.{call_pushed}
use Rattle.cond_runs.proofs.OpenLemmas.{calls_pushed}
use Rattle.cond_runs.proofs.runs.Run.push_call.Goals as goal

pub returns : goal.returns
unfolding run_at
returns c = λ exact on.
    call_pushed exact (value on (condition_of c.args.self.now.refused)) (items_at on c.args.self.now.done.items) (calls_at on c.args.self.now.calls.items) (calls_at on c.push.new.self.items)
    (value on (condition_of c.args.call.when)) (held_at on c.args.call) (calls_pushed on c.args.self.now.calls.items c.push.new.self.items c.args.call c.in_ok-push.ensures.items)
