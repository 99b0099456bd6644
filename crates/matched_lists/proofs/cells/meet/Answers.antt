use Rattle.std.proofs.Common.{ap, ◌∙◌}
use Rattle.cond_formula.specs.Features.{has}
use Rattle.cond_formula.specs.Conditions.{value}
use Rattle.conditional.specs.Entries.{listed, seen}
use Rattle.matched_lists.specs.Matched.{there}
use Rattle.matched_lists.proofs.PairLaws.{pair_refused, pair_moved}
use Rattle.matched_lists.proofs.cells.meet.Goals as goal

pub returns-clause-leads : goal.returns-clause-leads
returns-clause-leads g c = λ n rule longer ps qs v row below admitted follows sx sy s.
    pair_moved (has n) v (seen (has n) (listed g.R.Plain.form c.refuse_pair.new.refusals)) rule ps qs c.args.here c.in_ok-moves.moves.first c.in_ok-moves.moves.second c.in_ok-moves.moves.both
    (there (has n) c.args.x.now) (there (has n) c.args.y.now) row below (c.in_ok-moves.ensures.moves n (ap (value (has n)) c.in_ok-refuse_pair.ensures.kept ∙ admitted))
    (pair_refused (has n) v rule (g.M.Matching.first c.args.matching.now n) (g.M.Matching.second c.args.matching.now n) c.args.x.now.what c.args.y.now.what
    (there (has n) c.args.x.now) (there (has n) c.args.y.now) ps qs (seen (has n) (listed g.R.Plain.form c.args.refusals.now)) (seen (has n) (listed g.R.Plain.form c.refuse_pair.new.refusals))
    c.args.here row below
    (λ p q is_p is_q. c.in_ok-refuse_pair.ensures.pair n rule longer p q admitted follows is_p is_q)
    (λ off. c.in_ok-refuse_pair.ensures.alone n admitted off) sx sy s)
