use Rattle.cond_formula.specs.Conditions.{conditions_of}
use Rattle.reduced_conditions.proofs.LiteralLaws.{each_of_all}
use Rattle.reduced_conditions.proofs.literals.Literals.of_all.Goals as goal

pub returns : goal.returns
returns c = λ on all. c.take_each.ensures.ahead on (c.none-literals.ensures.none on) (each_of_all on (conditions_of c.args.parts.now) all)
