use Rattle.std.proofs.Common.{arith, ◌≡◌, ◌<◌, ◌+◌, length, sym, ap, ◌∙◌, subst}
use Rattle.std.specs.Prelude.{◌&&◌, map, slice_get}
use Rattle.std.proofs.lemmas.List.{length_push}
use Rattle.cond_formula.specs.Features.{has}
use Rattle.cond_formula.specs.Conditions.{value}
use Rattle.cond_compatible.specs.Depths.{structs_agree, compared}
use Rattle.cond_compatible.specs.SeenTags.{tag_seen, said_in, said_alike}
use Rattle.cond_compatible.proofs.AgreeLaws.{left_true, right_true}
use Rattle.cond_compatible.proofs.Rows.{rows_pushed, rows_pushed_below, rows_all, tag_at_place, tag_past, and_never}
use Rattle.cond_compatible.proofs.comparing.compare_all.Goals as goal

pub loop-number-preserved : goal.loop-number-preserved
loop-number-preserved g c =
    let number = c.loop-number.number in
    let rows = c.loop-number.rows.items in
    let structs = c.args.structs.now in
    let a = c.index-structs-number.result in
    let now = c.in_ok-now.now in
    let inside : number < length c.args.structs.now = c.loop-number-test.true in
    record {
      kept = c.in_ok-now.ensures.kept ∙ c.loop-number.invariant.kept;
      long = ap length c.in_ok-push.ensures.items ∙ length_push rows now.row ∙ ap (λ k. k + 1) c.loop-number.invariant.long;
      exact = λ n admitted i j low.
          let alike = said_alike (has n) c.args.alike.now in
          let tags = map (tag_seen (has n)) structs in
          subst (λ xs. said_in (has n) xs i j ≡ compared alike tags i j) (sym c.in_ok-push.ensures.items)
          (rows_pushed (has n) (compared alike tags) rows now.row number c.loop-number.invariant.long (c.loop-number.invariant.exact n admitted)
          (λ j. c.in_ok-now.ensures.exact n j (ap (value (has n)) c.loop-number.invariant.kept ∙ admitted)
          ∙ ap (λ x. alike number j && structs_agree alike x (slice_get tags j)) (sym (tag_at_place (tag_seen (has n)) structs number a inside c.index-structs-number.is)))
          i j low);
      same = λ e on i j low within.
          let both_same = sym c.are_both-is_same.ensures ∙ e in
          let was = said_alike on c.args.alike.now in
          subst (λ xs. said_in on xs i j ≡ was i j) (sym c.in_ok-push.ensures.items)
          (rows_pushed_below on (length structs) was rows now.row number c.loop-number.invariant.long
          (c.loop-number.invariant.same (left_true c.loop-number.is_same now.is_same both_same) on)
          (c.in_ok-now.ensures.same (right_true c.loop-number.is_same now.is_same both_same) on) i j low within);
    }

pub returns-clause-exact : goal.returns-clause-exact
returns-clause-exact g c =
    let all : c.loop-number.number ≡ length c.args.structs.now = omega arith in
    λ n i j admitted.
    let alike = said_alike (has n) c.args.alike.now in
    let structs = c.args.structs.now in
    let tags = map (tag_seen (has n)) structs in
    rows_all (has n) (compared alike tags) c.loop-number.rows.items (length structs) (c.loop-number.invariant.long ∙ all)
    (λ i j low. c.loop-number.invariant.exact n admitted i j (omega (arith, all, low)))
    (λ i j high. and_never (alike i j) (structs_agree alike (slice_get tags i) (slice_get tags j))
    (ap (λ x. structs_agree alike x (slice_get tags j)) (tag_past (tag_seen (has n)) structs i high))) i j
