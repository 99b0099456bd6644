use Rattle.std.proofs.Common.{map, ap, ◌∙◌, refl}
use Rattle.cond_formula.specs.Conditions.{condition_of, value}
use Rattle.cond_bindings.specs.Bindings as spec
use Rattle.cond_pairings.specs.Pairs.{pairs_seen}
use Rattle.cond_pairings.proofs.Chained.{seen_as}
use Rattle.cond_pairings.proofs.Firsts.{own_pair, reversed}
use Rattle.cond_pairings.proofs.pairs.pair_declaration.Goals as goal

pub returns : goal.returns
returns c = λ on.
    ap (pairs_seen on) c.in_ok-push.ensures.items
    ∙ own_pair on c.args.identifier (value on (condition_of c.args.when)) (value on (condition_of c.in_ok-left.left)) (map seen_as c.deref.result.now) _ c.args.all.now.items _ _
    (reversed on c.in_ok-before.before.items c.deref.result.now (spec.visible c.args.declarations.now c.args.earlier) c.in_ok-before.ensures (c.deref.ensures.value ∙ c.reverse.ensures.items))
    (c.in_ok-left.ensures.left on) refl (c.in_ok-left.ensures.pairs on)
