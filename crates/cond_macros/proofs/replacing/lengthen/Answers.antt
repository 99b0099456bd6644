use Rattle.std.proofs.Common.{ap, ◌∙◌}
use Rattle.std.specs.Prelude.{if◌then◌else◌}
use Rattle.std.proofs.lemmas.Result.{on_ok_weaker}
use Rattle.c_text.specs.Token.{plain_token}
use Rattle.c_text.specs.Macros as spec
use Rattle.cond_formula.specs.Conditions.{Condition, condition_of, value}
use Rattle.cond_bodies.specs.declared.item.Item.{Item}
use Rattle.cond_bodies.specs.CondItems.{item_at}
use Rattle.cond_runs.specs.CondCalls.{call_at, held_at}
use Rattle.cond_runs.specs.CondRuns.{run_at}
use Rattle.cond_macros.proofs.TurnLemmas.{lengthened}
use Rattle.cond_macros.proofs.replacing.lengthen.Goals as goal

pub returns : goal.returns
returns c =
    on_ok_weaker c.push_call.result (λ h. λ exact on table deeper active.
    let entry = c.args.entry.now in
    let item = item_at on entry.what in
    let held = held_at on c.args.call in
    lengthened exact table deeper active (run_at exact on c.args.run.now) (run_at exact on c.push_call.new.self) (value on (condition_of c.args.call.when)) (value on (condition_of c.lengthen.new.self.when)) (value on (condition_of entry.when)) held
    (call_at on c.lengthen.new.self) (plain_token c.lengthen.new.self.name.token.now) item (plain_token entry.what.token.now)
    (c.requires on)
    (c.in_ok-lengthen.ensures.call on
    ∙ ap (λ (d : Condition). if value on d then spec.with_item held.call (item_at on c.in_ok-try_clone-2.field-0) else held.call) c.in_ok-try_clone.ensures
    ∙ ap (λ (i : spec.Item). if value on (condition_of entry.when) then spec.with_item held.call i else held.call) (c.in_ok-try_clone-2.ensures.item on))
    (ap (λ (i : Item). plain_token i.token.now) c.in_ok-lengthen.ensures.name)
    (ap (value on) c.in_ok-lengthen.ensures.when) (h exact on))
    c.push_call.ensures
