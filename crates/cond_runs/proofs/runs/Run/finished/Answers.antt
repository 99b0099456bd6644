use Rattle.std.proofs.Common.{Bool, List, ◌||◌, ap, ◌∙◌}
use Rattle.cond_formula.specs.Conditions.{condition_of, value}
use Rattle.cond_bodies.specs.CondItems.{items_at}
use Rattle.cond_runs.specs.declared.calls.Call.{Call}
use Rattle.cond_runs.specs.CondCalls.{calls_at}
use Rattle.cond_runs.specs.CondFinished.{given_at}
use Rattle.cond_runs.specs.CondRuns.{run_at}
use Rattle.cond_runs.specs.Pieces.{some_open}
use Rattle.cond_runs.proofs.RunLemmas.{run_ended}
use Rattle.cond_runs.proofs.runs.Run.finished.Goals as goal

pub returns : goal.returns
unfolding run_at given_at
returns c = λ exact on.
    let run = c.args.self in
    run_ended exact (value on (condition_of run.refused)) (value on (condition_of c.in_ok-refused.refused)) (items_at on run.done.items) (calls_at on run.calls.items)
    (c.in_ok-refused.ensures on ∙ ap (λ (b : Bool). value on (condition_of run.refused) || b) (c.in_ok-unclosed.ensures on ∙ ap (λ (l : List Call). some_open (calls_at on l)) c.as_slice.ensures.value))
