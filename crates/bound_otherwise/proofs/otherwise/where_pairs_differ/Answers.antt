use Rattle.cond_formula.specs.Conditions.{condition_of, value}
use Rattle.cond_pairings.specs.Pairs.{pairs_seen}
use Rattle.declared_tokens.specs.Declarations.{declared_at}
use Rattle.bound_otherwise.proofs.Pairs.{tells-pairs}
use Rattle.bound_otherwise.proofs.otherwise.where_pairs_differ.Goals as goal

pub returns : goal.returns
returns c = λ on.
    tells-pairs (declared_at on c.in_ok-declared.declared) (declared_at on c.in_ok-others.others) (pairs_seen on c.args.before.now) (pairs_seen on c.args.after.now)
    (c.in_ok-declared.ensures on) (c.in_ok-others.ensures on) (value on (condition_of c.in_ok-f.f)) (c.in_ok-f.ensures on)
