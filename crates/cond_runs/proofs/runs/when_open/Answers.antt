use Rattle.std.proofs.Common.{◌||◌, refl, ap, ◌∙◌, arith}
use Rattle.cond_formula.specs.Conditions.{Condition, condition_of, value}
use Rattle.cond_formula.specs.ConditionLaws.{condition_of-False}
use Rattle.cond_runs.specs.CondCalls.{calls_at}
use Rattle.cond_runs.specs.Pieces.{some_open}
use Rattle.cond_runs.proofs.OpenLemmas.{open_step, open_end}
use Rattle.cond_runs.proofs.runs.when_open.Goals as goal

pub loop-call-init : goal.loop-call-init
loop-call-init c = λ on. rw condition_of-False refl

pub loop-call-preserved : goal.loop-call-preserved
loop-call-preserved c = λ on.
    let some = value on (condition_of c.loop-call.some) in
    open_step on c.args.calls.now c.call-item.result c.loop-call.call-index some (value on (condition_of c.in_ok-some.some)) (some_open (calls_at on c.args.calls.now)) c.loop-call-test.true c.call-item.is
    (c.in_ok-some.ensures on ∙ ap (λ (d : Condition). some || value on d) c.in_ok-try_clone.ensures) (c.loop-call.invariant on)

pub returns : goal.returns
returns c = λ on. open_end on c.args.calls.now c.loop-call.call-index (value on (condition_of c.loop-call.some)) (some_open (calls_at on c.args.calls.now)) (omega arith) (c.loop-call.invariant on)
