use Rattle.std.proofs.Common.{ap, ◌∙◌}
use Rattle.std.proofs.lemmas.Result.{on_ok_weaker}
use Rattle.c_text.specs.Token.{plain_token}
use Rattle.c_text.specs.Macros as spec
use Rattle.cond_formula.specs.Conditions.{condition_of, value}
use Rattle.cond_bodies.specs.declared.item.Item.{Item}
use Rattle.cond_bodies.specs.CondItems.{item_at}
use Rattle.cond_runs.specs.CondCalls.{call_at, closes, held_at}
use Rattle.cond_runs.specs.CondRuns.{run_at}
use Rattle.cond_macros.proofs.TurnLemmas.{goes_piece}
use Rattle.cond_macros.proofs.replacing.go_on.Goals as goal

pub read-requires : goal.read-requires
read-requires c = λ on. ap (λ (i : spec.Item). closes (call_at on c.args.call) i.token) (c.in_ok-try_clone.ensures.item on) ∙ c.requires on

pub returns : goal.returns
returns c =
    on_ok_weaker c.push_call.result (λ h. λ exact on table deeper active.
    goes_piece exact table deeper active (run_at exact on c.args.run.now) (run_at exact on c.push_call.new.self) (value on (condition_of c.args.call.when)) (value on (condition_of c.read.new.self.when)) (held_at on c.args.call)
    (call_at on c.read.new.self) (plain_token c.read.new.self.name.token.now) (item_at on c.args.item.now) (plain_token c.args.item.now.token.now)
    (c.in_ok-read.ensures.call on ∙ ap (λ (i : spec.Item). spec.progress (call_at on c.args.call) i) (c.in_ok-try_clone.ensures.item on))
    (ap (λ (i : Item). plain_token i.token.now) c.in_ok-read.ensures.name)
    (ap (value on) c.in_ok-read.ensures.when) (h exact on))
    c.push_call.ensures
