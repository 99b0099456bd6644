use Rattle.std.proofs.Common.{List, ap, ◌∙◌, length, arith}
use Rattle.cond_formula.specs.declared.formulas.Formula.{Formula}
use Rattle.cond_formula.specs.ConditionLaws.{condition_of-True}
use Rattle.cond_formula.specs.Conditions.{condition_of, conditions_of, value, any_true}
use Rattle.cond_expressions.proofs.SmallLaws.{inverse_or, factored_says, joined_says}
use Rattle.cond_expressions.proofs.conditions.+join.Goals as goal

pub either-returns-then-is_inverse : goal.either-returns-then-is_inverse
either-returns-then-is_inverse t c = λ on. rw condition_of-True (inverse_or (value on (condition_of c.args.a)) (value on (condition_of c.args.b)) (c.is_inverse.ensures c.if-is_inverse.true on))

pub factored-returns : goal.factored-returns
factored-returns t c = λ on.
    let says = λ (f : Formula). value on (condition_of f) in
    let same = rw (c.deref.ensures.value, c.deref-2.ensures.value) at c.common_front-count.ensures in
    factored_says on c.args.a.items c.args.b.items c.common_front-count.result (says c.in_ok-f.f) (says c.in_ok-front.field-0.front) (says c.in_ok-rest.rest)
    (says c.in_ok-front.field-0.rest) (says c.in_ok-second.field-0.rest)
    same (c.in_ok-f.ensures on) (c.in_ok-rest.ensures on) (c.in_ok-front.ensures.front on) (c.in_ok-front.ensures.rest on) (c.in_ok-second.ensures.rest on)

pub joined-returns-in_ok-f-in-Some : goal.joined-returns-in_ok-f-in-Some
joined-returns-in_ok-f-in-Some t c = λ on.
    joined_says on c.args.parts.items c.in-Some.i c.remove-part.result (value on (condition_of c.in_ok-f-in-Some.f)) _ (value on (condition_of c.in_ok-one-in-Some.one)) (value on (condition_of c.args.b))
    (omega (arith, ap length c.deref.ensures.value, c.in-Some.ensures)) c.remove-part.ensures.value
    (c.in_ok-f-in-Some.ensures on)
    (c.disjoined.ensures on ∙ ap (λ (fs : List Formula). any_true on (conditions_of fs)) c.remove-part.ensures.items)
    (c.in_ok-one-in-Some.ensures on)
