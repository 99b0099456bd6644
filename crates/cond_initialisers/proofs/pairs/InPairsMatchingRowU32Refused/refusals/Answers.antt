use Rattle.std.proofs.Common.{false, [], ◌∷◌, ◌++◌, get_or, ap, ◌∙◌}
use Rattle.cond_formula.specs.Features.{has}
use Rattle.cond_formula.specs.Conditions.{condition_of, value}
use Rattle.conditional.specs.Entries.{first, under}
use Rattle.cond_initialisers.proofs.Seen.{refused_is}
use Rattle.cond_initialisers.proofs.pairs.InPairsMatchingRowU32Refused.refusals.Goals as goal

pub returns-clause-answers : goal.returns-clause-answers
returns-clause-answers g c = λ n p q admitted is_row is_number.
    ap first (c.in_ok-push.ensures (has n) ∙ ap (λ l. l ++ under (value (has n) (condition_of c.in_ok-when.when)) (tt ∷ [])) (c.empty-all.ensures (has n)))
    ∙ ap (λ b. first (under b (tt {0} ∷ [])))
    (ap (value (has n)) c.in_ok-when.ensures ∙ (refused_is (has n) c.args.a.now.refused.items c.args.b.now
    ∙ (ap (λ l. get_or l c.args.b.now false) is_row ∙ ap (λ m. get_or p m false) is_number)))
