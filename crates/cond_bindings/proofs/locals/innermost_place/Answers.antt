use Rattle.std.proofs.Common.{◌≡◌, ◌-◌, true, false, List, length, sym, ap, ◌∙◌, arith}
use Rattle.std.specs.Str.{bytes_eq}
use Rattle.std.proofs.lemmas.List.{take_all}
use Rattle.cond_bindings.specs.declared.locals.LocalName.{LocalName}
use Rattle.cond_bindings.specs.Places.{latest_first, innermost_in}
use Rattle.cond_bindings.proofs.LocalLemmas.{innermost_more}
use Rattle.cond_bindings.proofs.locals.innermost_place.Goals as goal

pub loop-count-init : goal.loop-count-init
loop-count-init c =
    record {
      within = omega arith;
      same = ap (λ (ls : List LocalName). innermost_in (latest_first ls) c.args.name.now) (take_all (length c.args.locals.now) c.args.locals.now (omega arith));
    }

pub loop-count-preserved : goal.loop-count-preserved
loop-count-preserved c =
    let l = c.index-locals-count.result in
    let k = c.loop-count.count in
    let other = sym (c.eq.ensures ∙ ap (bytes_eq c.args.name.now) c.as_slice.ensures.value) ∙ c.if-eq.false in
    record {
      within = omega arith;
      same = sym (innermost_more c.args.locals.now (k - 1) k l c.args.name.now false (omega arith) (omega arith) c.index-locals-count.is other) ∙ c.loop-count.invariant.same;
    }

pub returns-then-eq : goal.returns-then-eq
returns-then-eq c =
    let l = c.index-locals-count.result in
    let k = c.loop-count.count in
    let here = sym (c.eq.ensures ∙ ap (bytes_eq c.args.name.now) c.as_slice.ensures.value) ∙ c.if-eq.true in
    sym (innermost_more c.args.locals.now (k - 1) k l c.args.name.now true (omega arith) (omega arith) c.index-locals-count.is here) ∙ c.loop-count.invariant.same

pub returns : goal.returns
returns c =
    let none : c.loop-count.count ≡ 0 = omega arith in
    rw none at c.loop-count.invariant.same
