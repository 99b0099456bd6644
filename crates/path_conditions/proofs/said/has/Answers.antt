use Rattle.std.proofs.Common.{IsTrue, subst}
use Rattle.cond_formula.specs.Conditions.{Condition, value}
use Rattle.reduced_conditions.proofs.PartLemmas.{part_of_all}
use Rattle.path_conditions.proofs.said.has.Goals as goal

pub returns-then-is_same : goal.returns-then-is_same
returns-then-is_same c = λ t on all.
    subst (λ (d : Condition). IsTrue (value on d)) (c.is_same.ensures c.if-is_same.true)
    (part_of_all on c.args.path.now c.loop-known.known-index c.known-item.result c.loop-known-test.true c.known-item.is all)
