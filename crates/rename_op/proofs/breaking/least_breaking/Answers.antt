use Rattle.std.proofs.Common.{List, Bool, IsTrue, ap, subst, ◌∙◌, ◌≡◌, sym}
use Rattle.std.specs.Prelude.{◌↔◌, ◌&&◌}
use Rattle.cond_formula.specs.Features.{has}
use Rattle.cond_formula.specs.Conditions.{Condition, condition_of, value}
use Rattle.command_projects.specs.Least.{IsAdmitted}
use Rattle.reference_classes.specs.Preconditions.{IsTouched}
use Rattle.tied_tokens.specs.Tokens.{plain_file_tokens}
use Rattle.project_questions.specs.Questions.{IsTrueIn}
use Rattle.project_questions.proofs.Same.{found-of-same}
use Rattle.rename_op.specs.Outcomes.{plain_precondition}
use Rattle.rename_op.specs.Asked.{BreaksIn, project_of, files_of}
use Rattle.rename_op.proofs.First.{breaks-told, told-of-same}
use Rattle.rename_op.proofs.breaking.least_breaking.Goals as goal

pub returns-clause-least : goal.returns-clause-least
returns-clause-least g c = λ place is before.
    let asked = c.args.asked.now in
    let precondition = plain_precondition c.args.precondition in
    let breaking = condition_of c.in_ok-breaking.breaking in
    let read = condition_of c.args.read.now in
    let same_read = c.in_ok-read.ensures in
    let touched : (n : List Bool) → IsAdmitted (project_of asked) n → IsTrue (value (has n) read) ↔ IsTouched (project_of asked) (files_of asked) place n
    = λ n admitted.
    let by_list = c.lists_touch_as_classes.ensures (project_of asked) (files_of asked) place (plain_file_tokens asked.class.now) n is.members in
    let by_read = c.requires.touched n admitted in (λ h. by_list.0 (by_read.0 h), λ x. by_read.1 (by_list.1 x)) in
    let caused = condition_of c.in_ok-caused.caused in
    let live = condition_of c.in_ok-live.live in
    let same : (n : List Bool) → IsAdmitted (project_of asked) n → value (has n) live ≡ value (has n) caused
    = λ n admitted. c.in_ok-live.ensures.same n (subst (λ (m : Condition). IsTrue (value (has n) m)) (sym (c.in_ok-caused.ensures.kept ∙ c.requires.model)) admitted.admitted) in
    found-of-same (project_of asked) (IsTrueIn breaking) (BreaksIn asked place precondition)
    (breaks-told asked place precondition read live breaking
    (λ on. c.in_ok-breaking.ensures on ∙ ap (λ f. value on f && value on live) same_read) touched
    (told-of-same asked place precondition caused live same (c.in_ok-caused.ensures.tells place is before)))
    c.in_ok-found.found c.in_ok-found.ensures
