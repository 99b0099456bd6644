use Rattle.std.proofs.Common.{◌∷◌, ◌++◌, [], sym, subst}
use Rattle.project_questions.specs.Questions.{IsFound}
use Rattle.rename_op.specs.Outcomes.{plain_precondition, earlier, AreShown}
use Rattle.rename_op.specs.Asked.{BreaksIn, project_of}
use Rattle.rename_op.proofs.First.{none-before, one-more}
use Rattle.rename_op.proofs.operation.ask_one.Goals as goal

pub returns-in-Least-clause-more : goal.returns-in-Least-clause-more
returns-in-Least-clause-more c = λ place is shown.
    let asked = c.args.asked.now in
    let p = plain_precondition c.args.precondition in
    let before = none-before (project_of asked) (BreaksIn asked place) (earlier p) c.args.proofs.items shown in
    record { none_before = before; least = subst (IsFound (project_of asked) (BreaksIn asked place p)) c.in-Least.is (c.in_ok-found.ensures.least place is before) }

pub returns-in_ok-push-in-Never-clause-more : goal.returns-in_ok-push-in-Never-clause-more
returns-in_ok-push-in-Never-clause-more c = λ place is shown.
    let asked = c.args.asked.now in
    let p = plain_precondition c.args.precondition in
    let proofs = c.args.proofs.items in
    let before = none-before (project_of asked) (BreaksIn asked place) (earlier p) proofs shown in
    let none = subst (IsFound (project_of asked) (BreaksIn asked place p)) c.in-Never.is (c.in_ok-found.ensures.least place is before) in
    subst (AreShown (project_of asked) (BreaksIn asked place) (earlier p ++ p ∷ [])) (sym c.in_ok-push-in-Never.ensures.items)
    (one-more (project_of asked) (BreaksIn asked place) (earlier p) proofs p c.in-Never.proof shown none)
