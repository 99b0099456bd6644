use Rattle.std.proofs.Common.{Option, Some, not, ap, ◌∙◌}
use Rattle.cond_formula.specs.Features.{has}
use Rattle.cond_formula.specs.Conditions.{Condition, condition_of, value}
use Rattle.c_text.specs.Token.{plain_token}
use Rattle.c_text.specs.Expressions.{word_of}
use Rattle.pp_lines.specs.ExpressionReading.{Place, Outcome}
use Rattle.cond_expressions.specs.Places.{next_place}
use Rattle.cond_expressions.proofs.Readings.{split_sees}
use Rattle.cond_expressions.proofs.evaluation.behind.Goals as goal

pub returns-clause-reads : goal.returns-clause-reads
returns-clause-reads g c = λ n admitted p s.
    let f = λ (q : Option (Place Outcome)). next_place q (word_of (plain_token c.args.token.now.token)) in
    let before = c.in_ok-before-2.ensures.same n admitted _ (c.in_ok-before.ensures (has n) (Some p) s) in
    let read = c.in_ok-read.ensures f (record { maps = λ x y a. a }) (has n) _ before in
    let kept = c.in_ok-kept.ensures (has n) (Some p) s in
    let either = c.in_ok-either.ensures (has n) _ _ read kept in
    split_sees (has n) f (value (has n) (condition_of c.args.token.now.when)) (value (has n) (condition_of c.in_ok-absent.absent)) p _
    (c.in_ok-absent.ensures.holds (has n) ∙ ap (λ (k : Condition). not (value (has n) k)) c.in_ok-try_clone.ensures)
    (c.in_ok-places.ensures.same n (rw c.in_ok-before-2.ensures.kept admitted) _ either)
