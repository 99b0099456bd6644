use Rattle.std.proofs.Common.{map, ap, ◌∙◌, ◌++◌, ◌&&◌}
use Rattle.cond_formula.specs.Conditions.{condition_of, value}
use Rattle.cond_bindings.specs.Bindings as spec
use Rattle.cond_bindings.specs.Unseen.{none_there}
use Rattle.cond_pairings.specs.Pairs.{pairs_seen}
use Rattle.cond_pairings.proofs.Walks.{pairs_left}
use Rattle.cond_pairings.proofs.Chained.{seen_as}
use Rattle.cond_pairings.proofs.Firsts.{use_pairs, reversed}
use Rattle.cond_pairings.proofs.pairs.pair_use.Goals as goal

pub returns : goal.returns
returns c = λ on.
    let blocks = ap (map seen_as) c.deref.ensures.value ∙ c.in_ok-of_blocks.ensures in
    let when = value on (condition_of c.args.when) in
    use_pairs on c.args.identifier when (value on (condition_of c.in_ok-left.left)) (spec.visible c.args.declarations.now c.args.block) (map seen_as c.deref-2.result.now) _
    (pairs_seen on c.args.all.now.items) _ _
    (reversed on c.in_ok-of_file.of_file.items c.deref-2.result.now (spec.visible c.args.declarations.now c.args.file) c.in_ok-of_file.ensures (c.deref-2.ensures.value ∙ c.reverse.ensures.items))
    (c.in_ok-left.ensures.left on ∙ ap (λ vs. when && none_there on vs) blocks)
    (c.in_ok-left.ensures.pairs on ∙ ap (λ vs. pairs_seen on c.args.all.now.items ++ pairs_left on c.args.identifier when vs) blocks)
    (c.in_ok-pair_with_first.ensures.pairs on)
