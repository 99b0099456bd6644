use Rattle.std.proofs.Common.{ap, ◌∙◌}
use Rattle.std.proofs.lemmas.Result.{IfOk-weaker}
use Rattle.cond_formula.specs.Conditions.{condition_of, value}
use Rattle.reduced_conditions.proofs.LiteralLaws.{one_by}
use Rattle.reduced_conditions.proofs.PartLemmas.{implied_either, implied_either_right}
use Rattle.reduced_conditions.proofs.connectives.one_conjunction.Goals as goal

pub returns-then-include : goal.returns-then-include
returns-then-include c = λ on.
    implied_either (value on (condition_of c.args.a)) (value on (condition_of c.args.b.now)) (λ is. (c.requires.one on).1 (c.include.ensures c.if-include.true on ((c.requires.other on).0 is)))

pub returns-then-include-2 : goal.returns-then-include-2
returns-then-include-2 c =
    IfOk-weaker c.try_clone.result _ _
    (λ copy is on.
    ap (value on) is
    ∙ implied_either_right (value on (condition_of c.args.a)) (value on (condition_of c.args.b.now)) (λ has. (c.requires.other on).1 (c.include-2.ensures c.if-include-2.true on ((c.requires.one on).0 has))))
    c.try_clone.ensures

pub returns-in-Some : goal.returns-in-Some
returns-in-Some c = λ on.
    let joined = rw c.in-Some.is at c.in_ok-rest.ensures in
    one_by (value on (condition_of c.in-Some.rest)) (value on (condition_of c.args.a)) (value on (condition_of c.args.b.now))
    (λ is. joined.one on ((c.requires.one on).0 is))
    (λ is. joined.other on ((c.requires.other on).0 is))
    (λ is refuted. (c.requires.other on).1 (joined.back on is (λ are. refuted ((c.requires.one on).1 are))))
