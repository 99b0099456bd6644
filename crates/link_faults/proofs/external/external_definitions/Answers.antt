use Rattle.std.proofs.Common.{◌+◌, List, drop, refl, arith}
use Rattle.core_meaning.specs.Linking.{count_external}
use Rattle.link_faults.specs.declared.left.LeftUnit.{LeftUnit}
use Rattle.link_faults.specs.SeenUnits.{units_seen}
use Rattle.link_faults.proofs.Loops.{sum_step, sum_end}
use Rattle.link_faults.proofs.Units.{external_split}
use Rattle.link_faults.proofs.external.external_definitions.Goals as goal

pub loop-left-init : goal.loop-left-init
loop-left-init c = λ on tables. record { before = 0; counted = c.none-so_far.ensures on; sum = omega arith }

pub loop-left-preserved : goal.loop-left-preserved
loop-left-preserved c = λ on tables.
    sum_step on (λ (xs : List LeftUnit). count_external (units_seen on tables xs) c.args.name.now) c.args.units.now c.left-item.result c.loop-left.left-index c.loop-left.so_far c.in_ok-so_far.so_far
    (external_split on tables c.args.name.now c.left-item.result (drop (c.loop-left.left-index + 1) c.args.units.now))
    c.loop-left-test.true c.left-item.is (c.in_ok-so_far.ensures on tables) (c.loop-left.invariant on tables)

pub returns : goal.returns
returns c = λ on tables.
    sum_end on (λ (xs : List LeftUnit). count_external (units_seen on tables xs) c.args.name.now) c.args.units.now c.loop-left.left-index c.loop-left.so_far refl
    c.loop-left-test.false (c.loop-left.invariant on tables)
