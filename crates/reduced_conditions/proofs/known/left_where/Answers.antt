use Rattle.cond_formula.specs.Conditions.{condition_of, value}
use Rattle.reduced_conditions.proofs.LiteralLaws.{same_truth}
use Rattle.reduced_conditions.proofs.known.left_where.Goals as goal

pub returns-then-said-clause-same : goal.returns-then-said-clause-same
returns-then-said-clause-same c = λ on known.
    same_truth (value on (condition_of c.in_ok-f.f)) (value on (condition_of c.args.when.now))
    (λ is. c.where_true-said.ensures.back c.if-said.true on (c.minus-rest.ensures.back on ((c.in_ok-f.ensures on).0 is) (c.where_has-literals.ensures.ahead on known)))
    (λ is. (c.in_ok-f.ensures on).1 (c.minus-rest.ensures.ahead on (c.where_true-said.ensures.ahead on is)))

pub returns-then-said-clause-wider : goal.returns-then-said-clause-wider
returns-then-said-clause-wider c = λ on is. (c.in_ok-f.ensures on).1 (c.minus-rest.ensures.ahead on (c.where_true-said.ensures.ahead on is))
