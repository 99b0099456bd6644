use Rattle.std.proofs.Common.{◌++◌, take, map, ap, ◌∙◌, refl, arith}
use Rattle.cond_bindings.specs.Bindings as spec
use Rattle.cond_pairings.proofs.Chained.{seen_as, ended, past, gone_on}
use Rattle.cond_pairings.proofs.chains.visible.Goals as goal

pub returns-then-place-behind : goal.returns-then-place-behind
returns-then-place-behind c =
    past c.args.declarations.now c.loop-next.behind c.loop-next.next c.loop-next.all.items (spec.visible c.args.declarations.now c.args.latest) c.loop-next.invariant.same c.in-Some.place c.in-Some.is (omega (arith, c.if-place-behind.true))

pub loop-next-preserved : goal.loop-next-preserved
loop-next-preserved c = record {
  within = omega arith;
  same =
      ap (λ xs. map seen_as xs ++ spec.visible (take c.in-Some.place c.args.declarations.now) c.index-declarations-place.result.hides) c.in_ok-push.ensures.items
      ∙ gone_on c.args.declarations.now c.loop-next.behind c.loop-next.next c.loop-next.all.items (spec.visible c.args.declarations.now c.args.latest) c.loop-next.invariant.same
      c.in-Some.place c.index-declarations-place.result _ c.in-Some.is (omega arith) c.loop-next.invariant.within c.index-declarations-place.is refl;
}

pub returns : goal.returns
returns c =
    ended c.args.declarations.now c.loop-next.behind c.loop-next.next c.loop-next.all.items (spec.visible c.args.declarations.now c.args.latest) c.loop-next.invariant.same c.in_default.is
