use Rattle.cond_formula.specs.Conditions.{condition_of, value}
use Rattle.reduced_conditions.proofs.LiteralLaws.{same_truth}
use Rattle.reduced_conditions.proofs.literals.Literals.unsaid.Goals as goal

pub returns : goal.returns
returns c = λ on known.
    same_truth (value on (condition_of c.in_ok-left.left)) (value on (condition_of c.args.f.now))
    (λ is. c.where_true-said.ensures.back (c.if-not-said.false) on (c.minus-rest.ensures.back on ((c.in_ok-left.ensures on).0 is) known))
    (λ is. (c.in_ok-left.ensures on).1 (c.minus-rest.ensures.ahead on (c.where_true-said.ensures.ahead on is)))
