use Rattle.reduced_conditions.specs.Literals.{AreTrue}
use Rattle.reduced_conditions.proofs.LiteralLaws.{by_value}
use Rattle.reduced_conditions.proofs.conjunctions.joined.Goals as goal

pub returns-clause-one : goal.returns-clause-one
returns-clause-one c = λ on are. (c.in_ok-f.ensures on).1 (c.minus-rest.ensures.ahead on are)

pub returns-clause-other : goal.returns-clause-other
returns-clause-other c = λ on are. (c.in_ok-f.ensures on).1 ((c.is_same.ensures c.if-not-is_same.false on).1 (c.minus-other_rest.ensures.ahead on are))

pub returns-clause-back : goal.returns-clause-back
returns-clause-back c = λ on is refuted.
    let rest = (c.in_ok-f.ensures on).0 is in
    by_value (AreTrue on c.args.others.now) (on c.in-Some.feature) c.in-Some.is_on
    (λ same. absurd (refuted (c.minus-rest.ensures.back on rest (c.of_feature.ensures on same))))
    (λ turned. c.minus-other_rest.ensures.back on ((c.is_same.ensures c.if-not-is_same.false on).0 rest) (c.of_feature-2.ensures on turned))
