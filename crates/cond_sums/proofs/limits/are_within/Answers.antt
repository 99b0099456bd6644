use Rattle.std.proofs.Common.{arith}
use Rattle.cond_formula.specs.Conditions.{condition_of, value}
use Rattle.cond_sums.proofs.Numbers.{counted_at_most}
use Rattle.cond_sums.proofs.Parts.{sum_from}
use Rattle.cond_sums.proofs.limits.are_within.Goals as goal

pub loop-part-preserved : goal.loop-part-preserved
loop-part-preserved c = λ on less.
    let part = c.part-item.result in
    let from = sum_from on c.args.parts.now c.loop-part.part-index part c.loop-part-test.true c.part-item.is in
    let most = counted_at_most (value on (condition_of part.when)) part.count in
    c.loop-part.invariant on (omega (arith, less, from, most))
