use Rattle.std.proofs.Common.{◌∷◌}
use Rattle.cond_formula.specs.Features.{has}
use Rattle.conditional.specs.Entries.{listed, seen}
use Rattle.matched_lists.specs.Matched.{matched, there, behind}
use Rattle.matched_lists.specs.Rows.{leaving}
use Rattle.matched_lists.proofs.RowLaws.{comes_in, goes_out}
use Rattle.matched_lists.proofs.rows.pass.Goals as goal

pub returns-clause-leads : goal.returns-clause-leads
returns-clause-leads g c = λ n rule longer ps qs v row below admitted follows sx sy s.
    let x = there (has n) c.args.x.now in
    let y = there (has n) c.args.y.now in
    goes_out (has n) v (seen (has n) (listed g.R.Plain.form c.meet.new.refusals)) (matched rule ps qs) (matched rule (behind x ps) qs) row below
    (matched rule ps (behind y qs)) (matched rule (behind x ps) (behind y qs)) c.in_ok-first.field-0.first c.in_ok-first.field-0.second c.in_ok-first.field-0.both c.args.diagonal c.in_ok-below.below (c.in_ok-below.ensures (has n))
    (c.in_ok-first.ensures.leads n rule longer ps qs v (leaving c.args.diagonal (matched rule (behind x ps) qs) ∷ row) below admitted follows sx sy
    (comes_in (has n) v (seen (has n) (listed g.R.Plain.form c.args.refusals.now)) (matched rule ps qs) (matched rule (behind x ps) qs) row below c.args.across c.args.diagonal c.args.at c.in_ok-here.here
    (c.in_ok-here.ensures (has n)) s))
