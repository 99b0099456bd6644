use Rattle.std.proofs.Common.{length, arith}
use Rattle.cond_formula.specs.Conditions.{condition_of, value}
use Rattle.project_ties.proofs.Pushed.{one_ends}
use Rattle.class_conditions.specs.Told.{some_unit_passes}
use Rattle.class_conditions.proofs.Left.{at_end}
use Rattle.class_conditions.proofs.conditions.where_told_passes.Goals as goal

pub returns : goal.returns
returns g c = λ on.
    let streams = c.args.streams.now in
    let told = c.args.told.now in
    let test = g.T.UnitTest.passes c.args.test.now in
    at_end on test streams told c.loop-i.i (one_ends (length streams) (length told) c.loop-i.i (omega (arith, c.min-count.ensures)))
    (value on (condition_of c.loop-i.passed)) (some_unit_passes on test streams told) (c.loop-i.invariant on)
