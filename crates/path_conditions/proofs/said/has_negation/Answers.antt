use Rattle.reduced_conditions.proofs.PartLemmas.{part_of_all}
use Rattle.path_conditions.proofs.said.has_negation.Goals as goal

pub returns-then-is_negation : goal.returns-then-is_negation
returns-then-is_negation c = λ t on all.
    c.is_negation.ensures c.if-is_negation.true on
    (part_of_all on c.args.path.now c.loop-known.known-index c.known-item.result c.loop-known-test.true c.known-item.is all)
