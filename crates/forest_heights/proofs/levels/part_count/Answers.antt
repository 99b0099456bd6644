use Rattle.cond_formula.specs.Conditions.{condition_of, value}
use Rattle.forest_heights.proofs.Telling.{one_counted, all_counted}
use Rattle.forest_heights.proofs.levels.part_count.Goals as goal

pub loop-part-preserved : goal.loop-part-preserved
loop-part-preserved c = λ on.
    one_counted on c.args.only_stars c.args.parts.now c.loop-part.part-index c.loop-part.levels.items c.part-item.result c.loop-part-test.true c.part-item.is
    (value on (condition_of c.in_ok-when.when)) (c.in_ok-when.ensures on) c.in_ok-levels.levels.items (c.in_ok-levels.ensures on) (c.loop-part.invariant on)

pub returns : goal.returns
returns c = λ on. all_counted on c.args.only_stars c.args.parts.now c.loop-part.part-index c.loop-part.levels.items c.loop-part-test.false (c.loop-part.invariant on)
