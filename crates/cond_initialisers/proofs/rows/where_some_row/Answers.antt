use Rattle.std.proofs.Common.{◌&&◌, ◌||◌, ap, ◌∙◌}
use Rattle.cond_formula.specs.Conditions.{condition_of, value}
use Rattle.cond_formula.specs.ConditionLaws.{condition_of-False}
use Rattle.cond_initialisers.specs.Rows.{rows, some_row}
use Rattle.cond_initialisers.proofs.Seen.{refused_is, some_row_step, some_row_end}
use Rattle.cond_initialisers.proofs.rows.where_some_row.Goals as goal

pub loop-entry-init : goal.loop-entry-init
loop-entry-init c = λ on. ap (λ b. b || some_row (rows on c.args.entries.now)) (ap (value on) condition_of-False)

pub loop-entry-preserved : goal.loop-entry-preserved
loop-entry-preserved c = λ on.
    some_row_step on c.args.entries.now c.entry-item.result c.loop-entry.entry-index (value on (condition_of c.loop-entry.some)) (value on (condition_of c.in_ok-refused.refused))
    (value on (condition_of c.in_ok-some.some)) c.loop-entry-test.true c.entry-item.is
    (ap (value on) c.in_ok-refused.ensures ∙ refused_is on c.entry-item.result.what.refused.items 0)
    (c.in_ok-some.ensures on ∙ ap (λ b. value on (condition_of c.loop-entry.some) || b)
    (c.in_ok-here.ensures on ∙ ap (λ w. value on w && value on (condition_of c.in_ok-refused.refused)) c.in_ok-try_clone.ensures))
    (c.loop-entry.invariant on)

pub returns : goal.returns
returns c = λ on. some_row_end on c.args.entries.now c.loop-entry.entry-index (value on (condition_of c.loop-entry.some)) c.loop-entry-test.false (c.loop-entry.invariant on)
