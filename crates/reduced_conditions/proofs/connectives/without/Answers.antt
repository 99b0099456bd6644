use Rattle.std.proofs.Common.{not, ap, ◌∙◌}
use Rattle.cond_formula.specs.Conditions.{condition_of, value}
use Rattle.cond_formula.specs.ConditionLaws.{condition_of-False}
use Rattle.reduced_conditions.specs.Literals.{AreTrue}
use Rattle.reduced_conditions.proofs.LiteralLaws.{both_by, not_true}
use Rattle.reduced_conditions.proofs.PartLemmas.{excluded_not, implied_without, without_inside}
use Rattle.reduced_conditions.proofs.connectives.without.Goals as goal

pub returns-then-others : goal.returns-then-others
returns-then-others c = λ on.
    let b = value on (condition_of c.args.b.now) in
    both_by (value on (condition_of c.in_ok-f.f)) (value on (condition_of c.args.a)) (not b) (AreTrue on c.where_true-literals.result) (AreTrue on c.where_has-others.result)
    (c.in_ok-f.ensures on)
    (c.where_true-literals.ensures.ahead on, c.where_true-literals.ensures.back c.if-literals.true on)
    (λ is. c.where_has-others.ensures.ahead on (not_true b is), λ are. ap not (c.where_has-others.ensures.back c.if-others.true on are))

pub returns-then-are_exclusive : goal.returns-then-are_exclusive
returns-then-are_exclusive c = λ on.
    excluded_not (value on (condition_of c.args.a)) (value on (condition_of c.args.b.now)) (c.are_exclusive.ensures c.if-are_exclusive.true on)

pub returns-then-is_implied_with : goal.returns-then-is_implied_with
returns-then-is_implied_with c = λ on.
    ap (value on) condition_of-False
    ∙ implied_without (value on (condition_of c.args.a)) (value on (condition_of c.args.b.now)) (c.is_implied_with.ensures c.if-is_implied_with.true on)

pub returns : goal.returns
returns c = λ on.
    let a = value on (condition_of c.args.a) in
    c.in_ok-here.ensures on
    ∙ without_inside a (value on (condition_of c.args.b.now)) (value on (condition_of c.in_ok-more.more)) (value on (condition_of c.in_ok-elsewhere.elsewhere)) (c.in_ok-more.ensures.same on) (c.in_ok-elsewhere.ensures.holds on)
