use Rattle.std.proofs.Common.{◌∙◌}
use Rattle.forest_heights.specs.Levels.{some_counts}
use Rattle.forest_heights.proofs.Choosing.{starts, one_alternative}
use Rattle.forest_heights.proofs.levels.choice_counts.Goals as goal

pub loop-when-init : goal.loop-when-init
loop-when-init c = λ on. starts on (some_counts c.args.only_stars) c.deref-when-items.result.now

pub loop-when-preserved : goal.loop-when-preserved
loop-when-preserved c = λ on.
    one_alternative on (some_counts c.args.only_stars) c.deref-when-items.result.now c.loop-when.when-index c.loop-when-item.result c.loop-when-test.true c.loop-when-item.is
    c.loop-when.found c.loop-when.left c.in_ok-found.found c.in_ok-left.left c.known-here.result
    (c.known-here.ensures on ∙ c.is_counted.ensures on) (c.in_ok-found.ensures on) (c.in_ok-left.ensures on) (c.loop-when.invariant on)
