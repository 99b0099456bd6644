use Rattle.reduced_conditions.proofs.literals.Literals.of_feature.Goals as goal

pub returns : goal.returns
returns c = λ on is. c.take_feature.ensures.ahead on (c.none-literals.ensures.none on) is
