use Rattle.std.proofs.Common.{List, [], map, Some, ap, ◌∙◌}
use Rattle.cond_formula.specs.Conditions.{Condition, value}
use Rattle.cond_formula.specs.ConditionLaws.{condition_of-False}
use Rattle.conditional.specs.declared.entries.Guarded.{Guarded}
use Rattle.cond_bodies.specs.declared.item.Item.{Item}
use Rattle.cond_bodies.specs.CondItems.{items_at}
use Rattle.cond_runs.specs.declared.calls.Call.{Call}
use Rattle.cond_runs.specs.Looked.{looked}
use Rattle.cond_runs.specs.CondCalls.{calls_at}
use Rattle.cond_runs.specs.CondRuns.{run_at}
use Rattle.cond_runs.specs.Pieces.{unless_refused}
use Rattle.cond_runs.proofs.runs.Run.begun.Goals as goal

pub returns : goal.returns
unfolding run_at
returns c = λ exact on.
    ap (λ (d : Condition). unless_refused (value on d) (record { done = map (looked exact) (items_at on c.new.result.items); open_calls = calls_at on c.new-2.result.items })) condition_of-False
    ∙ ap (λ (l : List (Guarded Item)). Some (record { done = map (looked exact) (items_at on l); open_calls = calls_at on c.new-2.result.items })) c.new.ensures.items
    ∙ ap (λ (l : List Call). Some (record { done = []; open_calls = calls_at on l })) c.new-2.ensures.items
