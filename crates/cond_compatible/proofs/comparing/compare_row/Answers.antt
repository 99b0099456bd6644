use Rattle.std.proofs.Common.{arith, ◌≡◌, ◌<◌, ℕ, ◌+◌, Bool, length, sym, ap, ap₂, ◌∙◌, subst}
use Rattle.std.specs.Prelude.{◌&&◌, Some, map, slice_get}
use Rattle.std.proofs.lemmas.List.{length_push}
use Rattle.cond_formula.specs.Features.{has}
use Rattle.cond_formula.specs.Conditions.{value}
use Rattle.cond_compatible.specs.Depths.{structs_agree}
use Rattle.cond_compatible.specs.SeenTags.{tag_seen, said_at, said_alike}
use Rattle.cond_compatible.proofs.AgreeLaws.{left_true, right_true}
use Rattle.cond_compatible.proofs.Rows.{said_pushed, said_all, tag_at_place, no_struct}
use Rattle.cond_compatible.proofs.comparing.compare_row.Goals as goal

pub loop-place-preserved : goal.loop-place-preserved
loop-place-preserved g c =
    let place = c.loop-place.place in
    let row = c.loop-place.conditions.items in
    let structs = c.args.structs.now in
    let b = c.index-structs-place.result in
    let now = c.in_ok-now.now in
    let inside : place < length c.args.structs.now = c.loop-place-test.true in
    record {
      kept = c.in_ok-now.ensures.kept ∙ c.loop-place.invariant.kept;
      long = ap length c.in_ok-push.ensures.items ∙ length_push row now.when ∙ ap (λ k. k + 1) c.loop-place.invariant.long;
      exact = λ n admitted k low.
          let alike = said_alike (has n) c.args.alike.now in
          let a = tag_seen (has n) c.args.a.now in
          let agrees : ℕ → Bool = λ k. alike c.args.number k && structs_agree alike (Some a) (slice_get (map (tag_seen (has n)) structs) k) in
          subst (λ xs. said_at (has n) xs k ≡ agrees k) (sym c.in_ok-push.ensures.items)
          (said_pushed (has n) agrees row now.when place c.loop-place.invariant.long (c.loop-place.invariant.exact n admitted)
          (c.in_ok-now.ensures.exact n (ap (value (has n)) c.loop-place.invariant.kept ∙ admitted)
          ∙ ap₂ (λ x y. x && structs_agree alike (Some a) y) (c.in_ok-were.ensures (has n)) (sym (tag_at_place (tag_seen (has n)) structs place b inside c.index-structs-place.is)))
          k low);
      same = λ e on k low.
          let both_same = sym c.are_both-is_same.ensures ∙ e in
          let was = said_alike on c.args.alike.now c.args.number in
          subst (λ xs. said_at on xs k ≡ was k) (sym c.in_ok-push.ensures.items)
          (said_pushed on was row now.when place c.loop-place.invariant.long
          (c.loop-place.invariant.same (left_true c.loop-place.is_same now.is_same both_same) on)
          (ap (value on) (c.in_ok-now.ensures.same (right_true c.loop-place.is_same now.is_same both_same)) ∙ c.in_ok-were.ensures on) k low);
    }

pub returns-clause-exact : goal.returns-clause-exact
returns-clause-exact g c =
    let all : c.loop-place.place ≡ length c.args.structs.now = omega arith in
    λ n k admitted.
    let alike = said_alike (has n) c.args.alike.now in
    let a = tag_seen (has n) c.args.a.now in
    let structs = c.args.structs.now in
    said_all (has n) (λ k. alike c.args.number k && structs_agree alike (Some a) (slice_get (map (tag_seen (has n)) structs) k))
    c.loop-place.conditions.items (length structs) (c.loop-place.invariant.long ∙ all)
    (λ k low. c.loop-place.invariant.exact n admitted k (omega (arith, all, low)))
    (λ k high. no_struct (tag_seen (has n)) structs alike a (alike c.args.number k) k high) k
