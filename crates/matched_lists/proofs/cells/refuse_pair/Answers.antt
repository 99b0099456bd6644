use Rattle.std.proofs.Common.{◌≡◌, ◌&&◌, refl, sym, ap, ◌∙◌}
use Rattle.cond_formula.specs.Features.{has}
use Rattle.cond_formula.specs.Conditions.{condition_of, value}
use Rattle.conditional.specs.Entries.{listed, seen}
use Rattle.matched_lists.specs.Matched.{there}
use Rattle.matched_lists.proofs.PairLaws.{refused_under}
use Rattle.matched_lists.proofs.cells.refuse_pair.Goals as goal

pub returns-clause-pair : goal.returns-clause-pair
returns-clause-pair g c = λ n rule longer p q admitted follows is_p is_q.
    let t : value (has n) (condition_of c.possible-together.result) ≡ (value (has n) (condition_of c.args.here.now) && (there (has n) c.args.x.now && there (has n) c.args.y.now))
    = c.possible-together.ensures.same n admitted
    ∙ (c.in_ok-both-2.ensures (has n) ∙ rw (c.in_ok-try_clone.ensures, c.in_ok-both.ensures (has n)) refl) in
    rw (sym t) (refused_under (value (has n) (condition_of c.possible-together.result)) (rule.pair p q) (seen (has n) (listed g.R.Plain.form c.args.refusals.now))
    (seen (has n) (listed g.R.Plain.form c.in_ok-why.why)) (seen (has n) (listed g.R.Plain.form c.append_under.new.self)) (c.in_ok-append_under.ensures (has n))
    (follows.pair p q c.in_ok-why.why (c.in_ok-why.ensures.answers n p q (ap (value (has n)) c.possible-together.ensures.kept ∙ admitted) is_p is_q)))
