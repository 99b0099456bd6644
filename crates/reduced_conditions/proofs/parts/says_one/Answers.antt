use Rattle.reduced_conditions.proofs.PartLemmas.{part_of_some}
use Rattle.reduced_conditions.proofs.parts.says_one.Goals as goal

pub returns-then-says_part : goal.returns-then-says_part
returns-then-says_part c =
    λ t on one.
    part_of_some on c.args.parts.now c.loop-part.part-index c.part-item.result c.loop-part-test.true c.part-item.is (c.says_part.ensures c.if-says_part.true on one)
