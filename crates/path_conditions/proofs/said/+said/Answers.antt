use Rattle.reduced_conditions.proofs.PartLemmas.{part_of_some}
use Rattle.path_conditions.proofs.SaidLemmas.{false_part}
use Rattle.path_conditions.proofs.said.+said.Goals as goal

pub some_follows-returns-then-follows_from : goal.some_follows-returns-then-follows_from
some_follows-returns-then-follows_from t c = λ yes on all.
    part_of_some on c.args.parts.now c.loop-part.part-index c.part-item.result c.loop-part-test.true c.part-item.is (c.follows_from.ensures c.if-follows_from.true on all)

pub some_is_excluded-returns-then-is_excluded_by : goal.some_is_excluded-returns-then-is_excluded_by
some_is_excluded-returns-then-is_excluded_by t c = λ yes on all.
    false_part on c.args.parts.now c.loop-part.part-index c.part-item.result c.loop-part-test.true c.part-item.is (c.is_excluded_by.ensures c.if-is_excluded_by.true on all)
