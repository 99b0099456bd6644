use Rattle.cond_formula.specs.Conditions.{condition_of, value}
use Rattle.reduced_conditions.specs.Literals.{AreTrue}
use Rattle.reduced_conditions.proofs.LiteralLaws.{both_by}
use Rattle.reduced_conditions.proofs.PartLemmas.{implied_both, implied_both_left}
use Rattle.reduced_conditions.proofs.connectives.both_conjunctions.Goals as goal

pub returns-then-include : goal.returns-then-include
returns-then-include c = λ on.
    implied_both (value on (condition_of c.args.a)) (value on (condition_of c.args.b)) (λ is. (c.requires.one on).1 (c.include.ensures c.if-include.true on ((c.requires.other on).0 is)))

pub returns-then-include-2 : goal.returns-then-include-2
returns-then-include-2 c = λ on.
    implied_both_left (value on (condition_of c.args.a)) (value on (condition_of c.args.b)) (λ is. (c.requires.other on).1 (c.include-2.ensures c.if-include-2.true on ((c.requires.one on).0 is)))

pub returns : goal.returns
returns c = λ on.
    both_by (value on (condition_of c.in_ok-f.f)) (value on (condition_of c.args.a)) (value on (condition_of c.args.b)) (AreTrue on c.args.literals.now) (AreTrue on c.args.others.now)
    (c.in_ok-f.ensures on) (c.requires.one on) (c.requires.other on)
