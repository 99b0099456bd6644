use Rattle.std.proofs.Common.{◌+◌, drop, refl, arith}
use Rattle.link_faults.specs.Measures.{whole_in}
use Rattle.link_faults.proofs.Loops.{sum_step, sum_end}
use Rattle.link_faults.proofs.Entries.{whole_split}
use Rattle.link_faults.proofs.definitions.whole_definitions.Goals as goal

pub loop-entry-init : goal.loop-entry-init
loop-entry-init c = λ on. record { before = 0; counted = c.none-so_far.ensures on; sum = omega arith }

pub loop-entry-preserved : goal.loop-entry-preserved
loop-entry-preserved c = λ on.
    sum_step on (whole_in on c.args.name.now) c.args.entries.now c.entry-item.result c.loop-entry.entry-index c.loop-entry.so_far c.in_ok-so_far.so_far
    (whole_split on c.args.name.now c.entry-item.result (drop (c.loop-entry.entry-index + 1) c.args.entries.now))
    c.loop-entry-test.true c.entry-item.is (c.in_ok-so_far.ensures on) (c.loop-entry.invariant on)

pub returns : goal.returns
returns c = λ on.
    sum_end on (whole_in on c.args.name.now) c.args.entries.now c.loop-entry.entry-index c.loop-entry.so_far refl
    c.loop-entry-test.false (c.loop-entry.invariant on)
