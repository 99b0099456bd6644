use Rattle.std.proofs.Common.{◌||◌, ◌+◌, List, drop, refl, sym, ap, ◌∙◌}
use Rattle.std.specs.List.{list_any}
use Rattle.cond_formula.specs.Conditions.{condition_of, value}
use Rattle.cond_formula.specs.ConditionLaws.{condition_of-False}
use Rattle.link_faults.specs.declared.left.LeftUnit.{LeftUnit}
use Rattle.link_faults.specs.SeenUnits.{units_seen}
use Rattle.link_faults.proofs.Loops.{or_step, or_end}
use Rattle.link_faults.proofs.Units.{any_split, any_one}
use Rattle.link_faults.proofs.questions.where_some.Goals as goal

pub loop-left-init : goal.loop-left-init
loop-left-init g c = λ on. rw condition_of-False refl

pub loop-left-preserved : goal.loop-left-preserved
loop-left-preserved g c = λ on.
    let asks = g.Q.Question.asks c.args.question.now on in
    let x = c.left-item.result in
    or_step (λ (xs : List LeftUnit). list_any asks (units_seen on c.args.tables.now xs)) c.args.units.now x c.loop-left.left-index
    (value on (condition_of c.loop-left.so_far)) (value on (condition_of c.in_ok-so_far.so_far))
    (any_split on c.args.tables.now asks x (drop (c.loop-left.left-index + 1) c.args.units.now))
    c.loop-left-test.true c.left-item.is
    (c.in_ok-so_far.ensures on ∙ ap (λ b. value on (condition_of c.loop-left.so_far) || b) (sym (any_one on c.args.tables.now asks x)))
    (c.loop-left.invariant on)

pub returns : goal.returns
returns g c = λ on.
    or_end (λ (xs : List LeftUnit). list_any (g.Q.Question.asks c.args.question.now on) (units_seen on c.args.tables.now xs)) c.args.units.now c.loop-left.left-index
    (value on (condition_of c.loop-left.so_far)) refl c.loop-left-test.false (c.loop-left.invariant on)
