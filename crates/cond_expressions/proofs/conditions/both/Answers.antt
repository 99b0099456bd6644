use Rattle.std.proofs.Common.{◌∙◌}
use Rattle.cond_formula.specs.Conditions.{condition_of, value}
use Rattle.cond_expressions.proofs.SmallLaws.{and_reduced}
use Rattle.cond_expressions.proofs.conditions.both.Goals as goal

pub returns : goal.returns
returns c = λ on.
    c.in_ok-f.ensures on
    ∙ and_reduced (value on (condition_of c.args.a)) (value on (condition_of c.in_ok-rest.rest)) (value on (condition_of c.args.b.now)) (λ holds. c.in_ok-rest.ensures on (rw (c.parts_of.ensures on) holds))
