use Rattle.std.proofs.Common.{◌+◌, ◌++◌, ◌&&◌, map, drop, sym, ap, ◌∙◌, refl, arith}
use Rattle.std.proofs.lemmas.List.{drop_all}
use Rattle.cond_formula.specs.Conditions.{condition_of, value}
use Rattle.cond_bindings.specs.Unseen.{none_there}
use Rattle.cond_pairings.specs.Pairs.{pairs_seen}
use Rattle.cond_pairings.proofs.Walks.{one_of, pairs_left, passed, left_behind, passed_all}
use Rattle.cond_pairings.proofs.Chained.{seen_as}
use Rattle.cond_pairings.proofs.pairs.pair_with_first.Goals as goal

pub loop-declaration-preserved : goal.loop-declaration-preserved
loop-declaration-preserved c =
    let at = c.loop-declaration in
    let next = one_of c.args.declarations.now c.declaration-item.result at.declaration-index c.loop-declaration-test.true c.declaration-item.is in
    record {
      pairs = λ on.
          ap (λ xs. pairs_seen on xs ++ pairs_left on c.args.identifier (value on (condition_of c.in_ok-left.left)) (map seen_as (drop (at.declaration-index + 1) c.args.declarations.now))) c.in_ok-push.ensures.items
          ∙ passed on c.args.identifier (value on (condition_of at.left)) (value on (condition_of c.in_ok-left.left)) _ (seen_as c.declaration-item.result) (map seen_as (drop (at.declaration-index + 1) c.args.declarations.now)) at.all.items _
          refl refl
          (c.in_ok-there.ensures on)
          (c.in_ok-left.ensures on)
          (ap (λ ds. pairs_seen on at.all.items ++ pairs_left on c.args.identifier (value on (condition_of at.left)) (map seen_as ds)) (sym next) ∙ at.invariant.pairs on);
      left = λ on.
          left_behind on (value on (condition_of at.left)) (value on (condition_of c.in_ok-left.left)) (seen_as c.declaration-item.result) (map seen_as (drop (at.declaration-index + 1) c.args.declarations.now)) _
          (c.in_ok-left.ensures on)
          (ap (λ ds. value on (condition_of at.left) && none_there on (map seen_as ds)) (sym next) ∙ at.invariant.left on);
    }

pub returns-clause-pairs : goal.returns-clause-pairs
returns-clause-pairs c = λ on.
    let at = c.loop-declaration in
    passed_all on c.args.identifier (value on (condition_of at.left)) at.all.items _
    (ap (λ ds. pairs_seen on at.all.items ++ pairs_left on c.args.identifier (value on (condition_of at.left)) (map seen_as ds)) (sym (drop_all at.declaration-index c.args.declarations.now (omega (arith, c.loop-declaration-test.false)))) ∙ at.invariant.pairs on)
