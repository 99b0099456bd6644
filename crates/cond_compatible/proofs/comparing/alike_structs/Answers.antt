use Rattle.std.proofs.Common.{arith, ◌≡◌, ◌<◌, ◌*◌, length, sym, ap, ◌∙◌, subst}
use Rattle.std.specs.Prelude.{map}
use Rattle.std.proofs.lemmas.List.{length-map}
use Rattle.cond_formula.specs.Features.{has}
use Rattle.cond_formula.specs.Conditions.{value}
use Rattle.cond_compatible.specs.Depths.{compared}
use Rattle.cond_compatible.specs.SeenTags.{tag_seen, tags_seen, said_alike}
use Rattle.cond_compatible.proofs.Levels.{next_depth, stable_at_last, told_at, told}
use Rattle.cond_compatible.proofs.comparing.alike_structs.Goals as goal

pub loop-preserved : goal.loop-preserved
loop-preserved g c = record {
  kept = c.in_ok-now.ensures.kept ∙ c.loop.invariant.kept;
  alike = λ n admitted i j.
      let said = said_alike (has n) c.loop.alike in
      c.in_ok-now.ensures.exact n i j (ap (value (has n)) c.loop.invariant.kept ∙ admitted)
      ∙ ap (λ xs. compared said (map (tag_seen (has n)) xs) i j) c.deref-in-loop.ensures.value
      ∙ next_depth said (tags_seen (has n) c.args.tables.now) c.loop.counter (c.loop.invariant.alike n admitted) i j;
}

pub returns-then-now-clause-tells : goal.returns-then-now-clause-tells
returns-then-now-clause-tells g c = λ n a b admitted.
    let said = said_alike (has n) c.loop.alike in
    let tags = tags_seen (has n) c.args.tables.now in
    let structs = c.args.tables.now.structs.items in
    let is = c.deref-in-loop.ensures.value in
    told said tags c.loop.counter (c.loop.invariant.alike n admitted)
    (λ i j low within.
    let long : length tags ≡ length structs = length-map structs (tag_seen (has n)) in
    let count : length tags ≡ length c.deref-in-loop.result.now = long ∙ sym (ap length is) in
    ap (λ xs. compared said (map (tag_seen (has n)) xs) i j) (sym is)
    ∙ (sym (c.in_ok-now.ensures.exact n i j (ap (value (has n)) c.loop.invariant.kept ∙ admitted))
    ∙ c.in_ok-now.ensures.same c.if-now.true (has n) i j (subst (λ m. i < m) count low) (subst (λ m. j < m) count within))) a b

pub returns-clause-tells : goal.returns-clause-tells
returns-clause-tells g c = λ n a b admitted.
    let tags = tags_seen (has n) c.args.tables.now in
    let structs = c.args.tables.now.structs.items in
    let all : c.loop.counter ≡ c.in-Some.most = omega arith in
    let items : length c.deref.result.now ≡ length structs = ap length c.deref.ensures.value in
    let counted : length structs ≡ c.len-count.result = omega (arith, items, c.deref.ensures.len, c.len-count.ensures) in
    let long : length tags ≡ c.len-count.result = length-map structs (tag_seen (has n)) ∙ counted in
    let last : c.loop.counter ≡ length tags * length tags = all ∙ c.in-Some.ensures.1 ∙ sym (ap (λ m. m * m) long) in
    told_at (said_alike (has n) c.loop.alike) tags c.loop.counter (c.loop.invariant.alike n admitted) (stable_at_last tags c.loop.counter last) a b
