use Rattle.std.proofs.Common.{◌≡◌, ◌+◌, ◌≤◌, List, [], ◌∷◌, ◌++◌, drop, length, length-append, refl, sym, ap, ◌∙◌, subst, arith}
use Rattle.cond_formula.specs.Features.{has}
use Rattle.cond_formula.specs.Conditions.{value}
use Rattle.conditional.specs.Entries.{listed, seen}
use Rattle.matched_lists.specs.Matched.{matched, there, behind}
use Rattle.matched_lists.specs.Rows.{after, leaving, places, left_at, Leads}
use Rattle.matched_lists.proofs.Places.{after_next, starts_after, ends_after}
use Rattle.matched_lists.proofs.RowLaws.{begins, opened, pushed, row_ends}
use Rattle.matched_lists.proofs.rows.next_row.Goals as goal

one_more : {A : Type 0} (xs : List A) (x : A) → length (xs ++ x ∷ []) ≡ length xs + 1
one_more xs x = omega (arith, length-append xs (x ∷ []))

pub returns-clause-long : goal.returns-clause-long
returns-clause-long g c =
    let all : c.loop-place.place ≡ length c.args.ys.now = omega arith in
    ap length c.in_ok-push-2.ensures.items ∙ (one_more c.loop-place.below.items c.in_ok-either.field-0 ∙ ap (λ k. k + 1) (c.loop-place.invariant.long ∙ all))

pub loop-place-init : goal.loop-place-init
loop-place-init g c = record {
  kept = refl;
  long = ap length c.new-below.ensures.items;
  leads = λ n rule ps qs v admitted follows sx there_ys s.
      let left = left_at (has n) rule ps c.args.ys.now qs in
      let left_below = left_at (has n) rule (behind (there (has n) c.args.x.now) ps) c.args.ys.now qs in
      rw c.new-below.ensures.items (begins (has n) v (seen (has n) (listed g.R.Plain.form c.args.refusals.now)) (left 0) (left_below 0) left c.args.row.now _ _ refl refl s);
}

pub loop-place-preserved : goal.loop-place-preserved
loop-place-preserved g c = record {
  kept = c.in_ok-onward.ensures.kept ∙ c.loop-place.invariant.kept;
  long = ap length c.in_ok-push.ensures.items ∙ (one_more c.loop-place.below.items c.in_ok-onward.onward.below ∙ ap (λ k. k + 1) c.loop-place.invariant.long);
  leads = λ n rule ps qs v admitted follows sx there_ys s.
      let ys = c.args.ys.now in
      let place = c.loop-place.place in
      let row = c.args.row.now in
      let left = left_at (has n) rule ps ys qs in
      let ps' = behind (there (has n) c.args.x.now) ps in
      let left_below = left_at (has n) rule ps' ys qs in
      let rest = places left (place + 1) (drop (place + 1) row) in
      let under = places left_below 0 c.loop-place.below.items in
      let before = opened (has n) v (seen (has n) (listed g.R.Plain.form c.loop-place.refusals)) (left place) (left_below place) c.loop-place.across c.loop-place.diagonal c.in_ok-at.at left place row under
      c.in_ok-at.ensures (c.loop-place.invariant.leads n rule ps qs v admitted follows sx there_ys s) in
      let behind_both = c.in_ok-onward.ensures.leads n rule c.args.longer.now ps (after (has n) ys qs place) v rest under (ap (value (has n)) c.loop-place.invariant.kept ∙ admitted) follows sx
      (starts_after (has n) (g.M.Matching.second c.args.matching.now n) ys qs c.index-ys-place.result place c.loop-place-test.true c.index-ys-place.is there_ys) before in
      let next = after_next (has n) ys qs c.index-ys-place.result place c.loop-place-test.true c.index-ys-place.is in
      let passed = subst (λ tail. Leads (has n) v (seen (has n) (listed g.R.Plain.form c.pass.new.refusals))
      (leaving c.in_ok-onward.onward.across (matched rule ps tail) ∷ leaving c.in_ok-onward.onward.diagonal (matched rule ps' tail) ∷ leaving c.in_ok-onward.onward.below (left_below place) ∷ rest) under) (sym next) behind_both in
      pushed (has n) v (seen (has n) (listed g.R.Plain.form c.pass.new.refusals)) (leaving c.in_ok-onward.onward.across (left (place + 1))) (leaving c.in_ok-onward.onward.diagonal (left_below (place + 1)))
      c.in_ok-onward.onward.below left_below place rest c.loop-place.below.items c.push.new.self.items c.loop-place.invariant.long c.in_ok-push.ensures.items passed;
}

pub returns-clause-leads : goal.returns-clause-leads
returns-clause-leads g c = λ n rule ps qs v admitted follows sx there_ys s.
    let ys = c.args.ys.now in
    let row = c.args.row.now in
    let left = left_at (has n) rule ps ys qs in
    let ps' = behind (there (has n) c.args.x.now) ps in
    let left_below = left_at (has n) rule ps' ys qs in
    let all : c.loop-place.place ≡ length ys = omega arith in
    let long : length c.loop-place.below.items ≡ length ys = c.loop-place.invariant.long ∙ all in
    let few : length row ≤ length ys + 1 = omega arith in
    let ended = ends_after (has n) (g.M.Matching.second c.args.matching.now n) ys qs (length ys) (omega arith) there_ys in
    let before = subst (λ k. Leads (has n) v (seen (has n) (listed g.R.Plain.form c.loop-place.refusals))
    (leaving c.loop-place.across (left k) ∷ leaving c.loop-place.diagonal (left_below k) ∷ places left k (drop k row)) (places left_below 0 c.loop-place.below.items)) all
    (c.loop-place.invariant.leads n rule ps qs v admitted follows sx there_ys s) in
    row_ends (has n) v rule c.args.x.now (g.M.Matching.first c.args.matching.now n) ps (seen (has n) (listed g.R.Plain.form c.loop-place.refusals)) (seen (has n) (listed g.R.Plain.form c.refuse_longer.new.refusals))
    c.loop-place.across c.loop-place.diagonal c.in_ok-at-2.at c.in_ok-here.here c.in_ok-either.field-0 left left_below (length ys) row c.loop-place.below.items c.push-2.new.self.items
    (ap (matched rule ps) ended) (ap (matched rule ps') ended) sx few long c.in_ok-push-2.ensures.items c.in_ok-at-2.ensures (c.in_ok-here.ensures (has n)) (c.in_ok-either.ensures (has n))
    (rw follows.first_longer (c.in_ok-refuse_longer.ensures (has n))) before
