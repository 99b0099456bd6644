use Rattle.std.proofs.Common.{not, ap, sym, ◌∙◌}
use Rattle.cond_formula.specs.declared.formulas.Formula.{Formula}
use Rattle.cond_formula.specs.Conditions.{condition_of, value}
use Rattle.cond_formula.specs.ConditionLaws.{condition_of-Not}
use Rattle.reduced_conditions.proofs.LiteralLaws.{one_by}
use Rattle.reduced_conditions.proofs.PartLemmas.{neither_one}
use Rattle.reduced_conditions.proofs.connectives.neither.Goals as goal

pub returns : goal.returns
returns c = λ on.
    let says = λ (f : Formula). value on (condition_of f) in
    let joined = rw c.in-Some.is at c.in_ok-some.ensures in
    neither_one (says c.args.a.now) (says c.args.b.now) (says c.deref.result.now) (says c.deref-2.result.now) (says c.in-Some.some) (says c.in_ok-negation.negation)
    (ap says c.in-Not-Not.is-0 ∙ ap (value on) (condition_of-Not c.in-Not-Not.f) ∙ ap (λ (f : Formula). not (says f)) (sym c.deref.ensures))
    (ap says c.in-Not-Not.is-1 ∙ ap (value on) (condition_of-Not c.in-Not-Not.g) ∙ ap (λ (f : Formula). not (says f)) (sym c.deref-2.ensures))
    (one_by (says c.in-Some.some) (says c.deref.result.now) (says c.deref-2.result.now)
    (λ is. joined.one on (c.where_true-literals.ensures.ahead on is))
    (λ is. joined.other on (c.where_true-others.ensures.ahead on is))
    (λ is refuted. c.where_true-others.ensures.back joined.all.1 on (joined.back on is (λ are. refuted (c.where_true-literals.ensures.back joined.all.0 on are)))))
    (c.in_ok-negation.ensures.holds on)
