use Rattle.std.proofs.lemmas.Result.{IfOk-weaker}
use Rattle.cond_formula.specs.Features.{has}
use Rattle.conditional.specs.Judgements.{fine}
use Rattle.cond_typing.specs.Texts.{joined}
use Rattle.cond_typing.proofs.TextRows.{stands_fine}
use Rattle.cond_typing.proofs.texts.joined_lengths.Goals as goal

pub returns-clause-shows : goal.returns-clause-shows
returns-clause-shows g c =
    IfOk-weaker c.crossed.result _ _ (λ z crosses n a b admitted first second.
    crosses (λ a b. fine (joined a b)) (record { computes = λ x y r answers. answers }) n admitted (fine a) (fine b) first
    (stands_fine (has n) b c.args.next c.empty.result (c.empty.ensures (has n)) second)) c.crossed.ensures.shows
