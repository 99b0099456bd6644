use Rattle.reduced_conditions.proofs.literals.Literals.where_has.Goals as goal

pub returns-clause-ahead : goal.returns-clause-ahead
returns-clause-ahead c = λ on is. c.take.ensures.ahead on (c.none-literals.ensures.none on) is
