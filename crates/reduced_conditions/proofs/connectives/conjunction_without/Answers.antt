use Rattle.std.proofs.Common.{ap, ◌∙◌}
use Rattle.cond_formula.specs.Conditions.{condition_of, value}
use Rattle.cond_formula.specs.ConditionLaws.{condition_of-False}
use Rattle.reduced_conditions.proofs.LiteralLaws.{same_truth}
use Rattle.reduced_conditions.proofs.PartLemmas.{apart_without, implied_without, without_inside}
use Rattle.reduced_conditions.proofs.connectives.conjunction_without.Goals as goal

pub returns-then-contradict : goal.returns-then-contradict
returns-then-contradict c = λ on.
    apart_without (value on (condition_of c.args.a)) (value on (condition_of c.args.b.now))
    (λ one other. c.contradict.ensures c.if-contradict.true on ((c.requires.one on).0 one) ((c.requires.other on).0 other))

pub returns-then-include : goal.returns-then-include
returns-then-include c = λ on.
    ap (value on) condition_of-False
    ∙ implied_without (value on (condition_of c.args.a)) (value on (condition_of c.args.b.now))
    (λ is. (c.requires.other on).1 (c.include.ensures c.if-include.true on ((c.requires.one on).0 is)))

pub returns : goal.returns
returns c = λ on.
    let a = value on (condition_of c.args.a) in
    let b = value on (condition_of c.args.b.now) in
    let more = value on (condition_of c.in_ok-more.more) in
    c.in_ok-here.ensures on
    ∙ without_inside a b more (value on (condition_of c.in_ok-elsewhere.elsewhere))
    (λ known. same_truth more b
    (λ is. (c.requires.other on).1 (c.minus-rest.ensures.back on ((c.in_ok-more.ensures on).0 is) ((c.requires.one on).0 known)))
    (λ is. (c.in_ok-more.ensures on).1 (c.minus-rest.ensures.ahead on ((c.requires.other on).0 is))))
    (c.in_ok-elsewhere.ensures.holds on)
