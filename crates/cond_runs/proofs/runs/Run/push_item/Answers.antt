use Rattle.std.proofs.Common.{[], ◌∷◌}
use Rattle.cond_formula.specs.Conditions.{condition_of, value}
use Rattle.cond_bodies.specs.CondItems.{item_at, items_at}
use Rattle.cond_runs.specs.CondCalls.{calls_at}
use Rattle.cond_runs.specs.CondRuns.{run_at}
use Rattle.cond_runs.proofs.RunLemmas.{items_pushed}
use Rattle.cond_runs.proofs.runs.Run.push_item.Goals as goal

pub returns : goal.returns
unfolding run_at
returns c = λ exact on.
    items_pushed exact (value on (condition_of c.args.self.now.refused)) (items_at on c.args.self.now.done.items) (items_at on c.push.new.list.items) (calls_at on c.args.self.now.calls.items)
    (value on (condition_of c.args.when)) (item_at on c.args.item ∷ []) (c.in_ok-push.ensures on)
