use Rattle.std.proofs.Common.{refl, arith}
use Rattle.c_text.specs.Macros as spec
use Rattle.cond_formula.specs.Conditions.{condition_of, value}
use Rattle.cond_formula.specs.ConditionLaws.{condition_of-False, condition_of-True}
use Rattle.cond_bodies.specs.CondItems.{items_at}
use Rattle.cond_bodies.proofs.LevelLemmas.{opens_step, opens_known, opens_end}
use Rattle.cond_bodies.proofs.levels.when_opens.Goals as goal

pub loop-entry-init : goal.loop-entry-init
loop-entry-init c = λ on. rw (condition_of-False, condition_of-True) refl

pub loop-entry-preserved : goal.loop-entry-preserved
loop-entry-preserved c = λ on.
    opens_step on c.args.rest.now c.entry-item.result c.loop-entry.entry-index c.loop-entry-test.true c.entry-item.is
    (value on (condition_of c.loop-entry.opens)) (value on (condition_of c.loop-entry.left)) (value on (condition_of c.in_ok-opens.opens)) (value on (condition_of c.in_ok-left.left)) (spec.opens (items_at on c.args.rest.now))
    (c.in_ok-opens.ensures on) (c.in_ok-left.ensures on) (c.loop-entry.invariant on)

pub returns-then-is_always : goal.returns-then-is_always
returns-then-is_always c = λ on.
    opens_known on c.args.rest.now c.entry-item.result c.loop-entry.entry-index c.loop-entry-test.true c.entry-item.is
    (value on (condition_of c.loop-entry.opens)) (value on (condition_of c.loop-entry.left)) (value on (condition_of c.in_ok-opens.opens)) (spec.opens (items_at on c.args.rest.now))
    (c.in_ok-opens.ensures on) (c.is_always.ensures c.if-is_always.true on) (c.loop-entry.invariant on)

pub returns : goal.returns
returns c = λ on.
    opens_end on c.args.rest.now c.loop-entry.entry-index (value on (condition_of c.loop-entry.opens)) (value on (condition_of c.loop-entry.left)) (spec.opens (items_at on c.args.rest.now)) (omega arith) (c.loop-entry.invariant on)
