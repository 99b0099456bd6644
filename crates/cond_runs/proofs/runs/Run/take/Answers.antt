use Rattle.std.proofs.Common.{List, ◌++◌, map, Vec, Global, ap, ◌∙◌}
use Rattle.c_text.specs.Token.{plain_token}
use Rattle.c_text.specs.Macros as spec
use Rattle.cond_formula.specs.Conditions.{condition_of, value}
use Rattle.conditional.specs.declared.entries.Guarded.{Guarded}
use Rattle.conditional.specs.Entries.{under}
use Rattle.cond_bodies.specs.declared.item.Item.{Item}
use Rattle.cond_bodies.specs.CondItems.{items_at}
use Rattle.cond_runs.specs.declared.calls.Call.{Call}
use Rattle.cond_runs.specs.CondCalls.{calls_at}
use Rattle.cond_runs.specs.CondFinished.{given_at}
use Rattle.cond_runs.specs.CondRuns.{run_at}
use Rattle.cond_runs.proofs.RunLemmas.{run_of, call_taken}
use Rattle.cond_runs.proofs.runs.Run.take.Goals as goal

pub returns : goal.returns
unfolding run_at given_at
returns c = λ exact on.
    let old = c.args.self.now in
    let new = c.refuse.new.self in
    let w = value on (condition_of c.args.when.now) in
    let brought = spec.brought (plain_token c.args.first.now) (plain_token c.args.last.now) in
    ap (λ (l : Vec (Guarded Item) Global). run_of exact (value on (condition_of new.refused)) (items_at on l.items) (calls_at on new.calls.items)) c.in_ok-refuse.ensures.done
    ∙ ap (λ (l : Vec Call Global). run_of exact (value on (condition_of new.refused)) (items_at on c.push_brought.new.list.items) (calls_at on l.items)) c.in_ok-refuse.ensures.calls
    ∙ call_taken exact (value on (condition_of old.refused)) (value on (condition_of new.refused)) (value on (condition_of c.args.given.now.refused)) (items_at on old.done.items) (items_at on c.push_brought.new.list.items) (calls_at on old.calls.items) w
    (plain_token c.args.first.now) (plain_token c.args.last.now) (items_at on c.args.given.now.items.items) (c.in_ok-refuse.ensures.refused on)
    (c.in_ok-push_brought.ensures on ∙ ap (λ (l : List (Guarded Item)). items_at on old.done.items ++ under w (map brought (items_at on l))) c.as_slice.ensures.value)
