use Rattle.std.proofs.Common.{◌||◌, refl, ap, ◌∙◌, arith}
use Rattle.cond_formula.specs.Conditions.{Condition, condition_of, value}
use Rattle.cond_formula.specs.ConditionLaws.{condition_of-False, condition_of-True}
use Rattle.cond_bodies.specs.CondItems.{items_at}
use Rattle.cond_runs.specs.CondArguments.{is_present}
use Rattle.cond_runs.proofs.ArgumentLemmas.{present_step, present_known, present_end}
use Rattle.cond_runs.proofs.arguments.when_present.Goals as goal

pub loop-entry-init : goal.loop-entry-init
loop-entry-init c = λ on. rw condition_of-False refl

pub loop-entry-preserved : goal.loop-entry-preserved
loop-entry-preserved c = λ on.
    let some = value on (condition_of c.loop-entry.some) in
    present_step on c.args.items.now c.entry-item.result c.loop-entry.entry-index some (value on (condition_of c.in_ok-some.some)) (is_present (items_at on c.args.items.now)) c.loop-entry-test.true c.entry-item.is
    (c.in_ok-some.ensures on ∙ ap (λ (d : Condition). some || value on d) c.in_ok-try_clone.ensures) (c.loop-entry.invariant on)

pub returns-then-is_always : goal.returns-then-is_always
returns-then-is_always c = λ on.
    ap (value on) condition_of-True
    ∙ present_known on c.args.items.now c.entry-item.result c.loop-entry.entry-index (value on (condition_of c.loop-entry.some)) (is_present (items_at on c.args.items.now)) c.loop-entry-test.true c.entry-item.is
    (c.is_always.ensures c.if-is_always.true on) (c.loop-entry.invariant on)

pub returns : goal.returns
returns c = λ on. present_end on c.args.items.now c.loop-entry.entry-index (value on (condition_of c.loop-entry.some)) (is_present (items_at on c.args.items.now)) (omega arith) (c.loop-entry.invariant on)
