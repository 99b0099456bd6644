use Rattle.std.proofs.Common.{true, subst}
use Rattle.std.proofs.lemmas.Result.{IfOk-weaker}
use Rattle.std.specs.Prelude.{◌↔◌, IsTrue}
use Rattle.cond_formula.specs.Conditions.{condition_of, Condition}
use Rattle.feature_model.specs.ModelView.{admitted}
use Rattle.tied_tokens.specs.Ties.{plain_tied_tokens}
use Rattle.tied_tokens.specs.Reached.{IsPossible}
use Rattle.tied_tokens.proofs.Possible.{possible_is}
use Rattle.tied_tokens.proofs.questions.is_possible.Goals as goal

pub returns-in-Some : goal.returns-in-Some
returns-in-Some c =
    let all = plain_tied_tokens c.args.all.now in
    subst (λ (when : Condition). IsTrue true ↔ IsPossible all when) c.in_ok-when.ensures
    (possible_is all (condition_of c.in_ok-accepted.accepted) (condition_of c.in_ok-when.when) (condition_of c.in_ok-question.question) c.in_ok-accepted.ensures c.in_ok-question.ensures true
    (c.in-Some.c, rw c.in-Some.is at c.suggested.ensures))

pub returns : goal.returns
returns c =
    let all = plain_tied_tokens c.args.all.now in
    let question = condition_of c.in_ok-question.question in
    IfOk-weaker c.is_some.result _ _
    (λ b tells. subst (λ (when : Condition). IsTrue b ↔ IsPossible all when) c.in_ok-when.ensures
    (possible_is all (condition_of c.in_ok-accepted.accepted) (condition_of c.in_ok-when.when) question c.in_ok-accepted.ensures c.in_ok-question.ensures b tells))
    (c.is_some.ensures (admitted c.args.all.now.model.now) question c.ask.ensures)
