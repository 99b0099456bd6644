use Rattle.std.proofs.Common.{ap, ◌∙◌}
use Rattle.cond_formula.specs.Conditions.{condition_of, value}
use Rattle.cond_formula.specs.ConditionLaws.{condition_of-True}
use Rattle.reduced_conditions.proofs.PartLemmas.{opposite_either, elsewhere_either}
use Rattle.reduced_conditions.proofs.connectives.either_of.Goals as goal

pub returns-then-is_opposite : goal.returns-then-is_opposite
returns-then-is_opposite c = λ on.
    ap (value on) condition_of-True ∙ opposite_either (value on (condition_of c.args.a)) (value on (condition_of c.args.b.now)) (c.is_opposite.ensures c.if-is_opposite.true on)

pub returns-then-is_always : goal.returns-then-is_always
returns-then-is_always c = λ on.
    ap (value on) condition_of-True
    ∙ elsewhere_either (value on (condition_of c.args.a)) (value on (condition_of c.args.b.now)) (value on (condition_of c.in_ok-elsewhere.elsewhere)) (c.in_ok-elsewhere.ensures.same on) (c.is_always.ensures c.if-is_always.true on)
