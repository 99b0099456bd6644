use Rattle.cond_formula.specs.Features.{has}
use Rattle.conditional.proofs.CrossingLaws.{both_judged}
use Rattle.conditional.proofs.crossing.crossed.Goals as goal

pub returns-clause-shows : goal.returns-clause-shows
returns-clause-shows g c = λ gives computes n admitted a b sx sy.
    let judged = c.in_ok-all.ensures.judges gives computes n admitted in
    both_judged g.A.Plain.form g.B.Plain.form g.C.Plain.form g.R.Plain.form (has n) gives c.args.x c.args.y c.in_ok-all-2.all c.in_ok-all-3.all c.in_ok-all-4.all
    (record { shows = λ v w sv sw. c.in_ok-all-2.ensures (has n) (gives v w) (judged.shows v w (rw c.deref.ensures.value sv) (rw c.deref-2.ensures.value sw)) })
    (record { values = c.in_ok-all-3.ensures.values; refusals = c.in_ok-all-3.ensures.refusals (has n) })
    (record { values = c.in_ok-all-4.ensures.values; refusals = c.in_ok-all-4.ensures.refusals (has n) }) a b sx sy
