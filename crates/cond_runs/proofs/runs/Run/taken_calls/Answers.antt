use Rattle.std.proofs.Common.{List, Vec, Global, ap, ◌∙◌}
use Rattle.cond_formula.specs.Conditions.{condition_of, value}
use Rattle.cond_bodies.specs.CondItems.{items_at}
use Rattle.cond_runs.specs.declared.calls.Call.{Call}
use Rattle.cond_runs.specs.CondCalls.{calls_at}
use Rattle.cond_runs.specs.CondRuns.{run_at}
use Rattle.cond_runs.proofs.RunLemmas.{calls_taken}
use Rattle.cond_runs.proofs.runs.Run.taken_calls.Goals as goal

pub returns-clause-rest : goal.returns-clause-rest
unfolding run_at
returns-clause-rest c = λ exact on.
    calls_taken exact (value on (condition_of c.args.self.now.refused)) (items_at on c.args.self.now.done.items) (calls_at on c.args.self.now.calls.items) (calls_at on c.replace.new.dest.items)
    (ap (λ (l : Vec Call Global). calls_at on l.items) c.replace.ensures.after ∙ ap (λ (l : List Call). calls_at on l) c.new.ensures.items)
