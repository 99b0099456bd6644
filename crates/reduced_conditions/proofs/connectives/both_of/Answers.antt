use Rattle.std.proofs.Common.{sym, ap, ◌∙◌}
use Rattle.cond_formula.specs.Conditions.{condition_of, value}
use Rattle.cond_formula.specs.ConditionLaws.{condition_of-False}
use Rattle.reduced_conditions.specs.Literals.{AreTrue}
use Rattle.reduced_conditions.proofs.LiteralLaws.{both_by}
use Rattle.reduced_conditions.proofs.connectives.both_of.Goals as goal

pub returns-then-others : goal.returns-then-others
returns-then-others c = λ on.
    both_by (value on (condition_of c.in_ok-f.f)) (value on (condition_of c.args.a.now)) (value on (condition_of c.args.b.now)) (AreTrue on c.where_true-literals.result) (AreTrue on c.where_true-others.result)
    (c.in_ok-f.ensures on)
    (c.where_true-literals.ensures.ahead on, c.where_true-literals.ensures.back c.if-literals.true on)
    (c.where_true-others.ensures.ahead on, c.where_true-others.ensures.back c.if-others.true on)

pub returns-then-are_exclusive : goal.returns-then-are_exclusive
returns-then-are_exclusive c = λ on.
    ap (value on) condition_of-False ∙ sym (c.are_exclusive.ensures c.if-are_exclusive.true on)
