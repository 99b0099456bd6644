use Rattle.std.proofs.Common.{◌+◌, drop, refl}
use Rattle.cond_formula.specs.Conditions.{condition_of, value}
use Rattle.cond_formula.specs.ConditionLaws.{condition_of-False}
use Rattle.link_faults.specs.Measures.{defined_in}
use Rattle.link_faults.proofs.Loops.{or_step, or_end}
use Rattle.link_faults.proofs.Entries.{defined_split}
use Rattle.link_faults.proofs.definitions.where_some_define.Goals as goal

pub loop-entry-init : goal.loop-entry-init
loop-entry-init c = λ on. rw condition_of-False refl

pub loop-entry-preserved : goal.loop-entry-preserved
loop-entry-preserved c = λ on.
    or_step (defined_in on c.args.name.now) c.args.entries.now c.entry-item.result c.loop-entry.entry-index
    (value on (condition_of c.loop-entry.so_far)) (value on (condition_of c.in_ok-so_far.so_far))
    (defined_split on c.args.name.now c.entry-item.result (drop (c.loop-entry.entry-index + 1) c.args.entries.now))
    c.loop-entry-test.true c.entry-item.is (c.in_ok-so_far.ensures on) (c.loop-entry.invariant on)

pub returns : goal.returns
returns c = λ on.
    or_end (defined_in on c.args.name.now) c.args.entries.now c.loop-entry.entry-index (value on (condition_of c.loop-entry.so_far)) refl
    c.loop-entry-test.false (c.loop-entry.invariant on)
