use Rattle.std.proofs.Common.{sym, ap, ◌∙◌}
use Rattle.cond_formula.specs.Conditions.{condition_of, value}
use Rattle.cond_formula.specs.ConditionLaws.{condition_of-False}
use Rattle.reduced_conditions.proofs.PartLemmas.{both_inside}
use Rattle.reduced_conditions.proofs.connectives.both.Goals as goal

pub returns-then-are_exclusive : goal.returns-then-are_exclusive
returns-then-are_exclusive c = λ on.
    ap (value on) condition_of-False ∙ sym (c.are_exclusive.ensures c.if-are_exclusive.true on)

pub returns : goal.returns
returns c = λ on.
    c.in_ok-f-2.ensures.holds on
    ∙ both_inside (value on (condition_of c.args.a)) (value on (condition_of c.args.b)) (value on (condition_of c.in_ok-here.here)) (c.in_ok-here.ensures on)
