use Rattle.cond_formula.specs.Conditions.{condition_of, value}
use Rattle.reduced_conditions.proofs.PartLemmas.{part_of_all, not_opposite}
use Rattle.reduced_conditions.proofs.parts.has_opposite.Goals as goal

pub returns-then-is_opposite : goal.returns-then-is_opposite
returns-then-is_opposite c = λ t on all.
    not_opposite (value on (condition_of c.part-item.result)) (value on (condition_of c.args.f.now))
    (part_of_all on c.args.parts.now c.loop-part.part-index c.part-item.result c.loop-part-test.true c.part-item.is all) (c.is_opposite.ensures c.if-is_opposite.true on)
