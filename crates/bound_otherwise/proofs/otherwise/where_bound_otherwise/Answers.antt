use Rattle.std.proofs.Common.{◌<◌, length, ap, subst, sym, ◌∙◌, arith}
use Rattle.cond_formula.specs.Conditions.{condition_of, value}
use Rattle.cond_pairings.specs.Pairs.{pairs_seen}
use Rattle.told_occurrences.specs.declared.told.ToldUnit.{ToldUnit}
use Rattle.bound_otherwise.specs.Otherwise.{TellsPairs}
use Rattle.bound_otherwise.proofs.Units.{one-more}
use Rattle.bound_otherwise.proofs.otherwise.where_bound_otherwise.Goals as goal

pub loop-place-preserved : goal.loop-place-preserved
loop-place-preserved c = λ on.
    let within = c.loop-place-test.true in
    let too : c.loop-place.place < length c.args.after.now = omega (arith, within, c.requires) in
    one-more on c.args.before.now c.args.after.now (value on (condition_of c.loop-place.otherwise)) (value on (condition_of c.in_ok-found.found))
    (value on (condition_of c.in_ok-otherwise-2.otherwise)) c.loop-place.place c.index-before-place.result c.index-after-place.result within too
    c.index-before-place.is c.index-after-place.is (c.in_ok-otherwise-2.ensures on)
    (subst (λ ps. TellsPairs (value on (condition_of c.in_ok-found.found)) (pairs_seen on ps) (pairs_seen on c.index-after-place.result.pairs.items)) (c.deref.ensures.value ∙ ap (λ (u : ToldUnit). u.pairs.items) (sym c.index-before-place.is))
    (subst (λ qs. TellsPairs (value on (condition_of c.in_ok-found.found)) (pairs_seen on c.deref.result.now) (pairs_seen on qs)) (c.deref-in-loop-place.ensures.value ∙ ap (λ (u : ToldUnit). u.pairs.items) (sym c.index-after-place.is)) (c.in_ok-found.ensures on)))
    (c.loop-place.invariant on)
