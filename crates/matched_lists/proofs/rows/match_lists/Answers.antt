use Rattle.std.proofs.Common.{◌≡◌, ◌+◌, [], ◌∷◌, ◌++◌, refl, sym, ap, ◌∙◌, subst, arith}
use Rattle.cond_formula.specs.declared.formulas.Formula.{True}
use Rattle.cond_formula.specs.Features.{has}
use Rattle.cond_formula.specs.Conditions.{value}
use Rattle.conditional.specs.Entries.{listed, seen}
use Rattle.matched_lists.specs.Matched.{matched}
use Rattle.matched_lists.specs.Rows.{after, places, left_at, LeftAlone, Leads}
use Rattle.matched_lists.proofs.Places.{after_next, starts_after, ends_after}
use Rattle.matched_lists.proofs.RowLaws.{starts, left_alone}
use Rattle.matched_lists.proofs.rows.match_lists.Goals as goal

pub loop-x-init : goal.loop-x-init
loop-x-init g c =
    let first_row : c.push.new.self.items ≡ True ∷ [] = c.in_ok-push.ensures.items ∙ ap (λ fs. fs ++ True ∷ []) c.new-row.ensures.items in
    record {
      kept = refl;
      long = rw first_row (omega arith);
      leads = λ n rule ps qs admitted follows there_xs there_ys.
          starts (has n) (left_at (has n) rule (after (has n) c.args.xs.now ps 0) c.args.ys.now qs) (seen (has n) (listed g.R.Plain.form c.empty-refusals.result)) c.push.new.self.items
          (c.empty-refusals.ensures (has n)) first_row;
    }

pub loop-x-preserved : goal.loop-x-preserved
loop-x-preserved g c = record {
  kept = c.in_ok-row.ensures.kept ∙ c.loop-x.invariant.kept;
  long = omega (arith, c.in_ok-row.ensures.long);
  leads = λ n rule ps qs admitted follows there_xs there_ys.
      let xs = c.args.xs.now in
      let ys = c.args.ys.now in
      let left = left_at (has n) rule (after (has n) xs ps c.loop-x.x-index) ys qs in
      let before = subst (λ row. Leads (has n) (matched rule ps qs) (seen (has n) (listed g.R.Plain.form c.loop-x.refusals)) (places left 0 row) []) (sym c.deref.ensures.value)
      (c.loop-x.invariant.leads n rule ps qs admitted follows there_xs there_ys) in
      let below = c.in_ok-row.ensures.leads n rule (after (has n) xs ps c.loop-x.x-index) qs (matched rule ps qs) (ap (value (has n)) c.loop-x.invariant.kept ∙ admitted) follows
      (starts_after (has n) (g.M.Matching.first c.args.matching.now n) xs ps c.x-item.result c.loop-x.x-index c.loop-x-test.true c.x-item.is there_xs) there_ys before in
      subst (λ rest. Leads (has n) (matched rule ps qs) (seen (has n) (listed g.R.Plain.form c.next_row.new.refusals)) (places (left_at (has n) rule rest ys qs) 0 c.in_ok-row.row.items) [])
      (sym (after_next (has n) xs ps c.x-item.result c.loop-x.x-index c.loop-x-test.true c.x-item.is)) below;
}

pub returns-clause-matched : goal.returns-clause-matched
returns-clause-matched g c = λ n rule ps qs admitted follows there_xs there_ys.
    let xs = c.args.xs.now in
    let ys = c.args.ys.now in
    let left = left_at (has n) rule (after (has n) xs ps c.loop-x.x-index) ys qs in
    let ended = ends_after (has n) (g.M.Matching.first c.args.matching.now n) xs ps c.loop-x.x-index c.loop-x-test.false there_xs in
    let alone = left_alone (has n) (g.M.Matching.second c.args.matching.now n) rule left 0 ys qs there_ys
    (λ k. let e : 0 + k ≡ k = omega arith in ap left e ∙ ap (λ rest. matched rule rest (after (has n) ys qs k)) ended) in
    let alone' = subst (λ why. LeftAlone (has n) why left 0 ys) follows.second_longer alone in
    let before = subst (λ row. Leads (has n) (matched rule ps qs) (seen (has n) (listed g.R.Plain.form c.loop-x.refusals)) (places left 0 row) []) (sym c.deref-2.ensures.value)
    (c.loop-x.invariant.leads n rule ps qs admitted follows there_xs there_ys) in
    c.in_ok-refuse_rest.ensures (has n) left (matched rule ps qs) alone' before
