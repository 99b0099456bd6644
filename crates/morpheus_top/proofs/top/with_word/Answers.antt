use Rattle.std.proofs.Common.{◌∷◌, Ok, ap, inr, map}
use Rattle.std.specs.String.{string_bytes}
use Rattle.command_promises.specs.Courses.{says}
use Rattle.command_promises.specs.Commands.{CourseFor, CourseOf}
use Rattle.command_promises.proofs.Answering.{came_by}
use Rattle.command_promises.proofs.Causes.{said_at_once}
use Rattle.command_promises.proofs.Promising.{for_words, other_word}
use Rattle.morpheus_top.specs.Commands.{commands}
use Rattle.morpheus_top.proofs.Table.{apart}
use Rattle.morpheus_top.proofs.top.with_word.Goals as goal

pub returns-in-Some-clause-came : goal.returns-in-Some-clause-came
returns-in-Some-clause-came g c =
    let further = map string_bytes c.args.further.now in
    let words = c.args.word.now ∷ further in
    let which = c.in-Some.which in
    came_by (CourseFor (commands which) further) (CourseOf commands words) (g.S.Store.state c.args.store.now) c.carried_out.result
    (for_words commands apart words which further (ap (λ word. word ∷ further) c.in-Some.ensures)) c.carried_out.ensures.came

pub returns-in_ok-said-in-None-clause-came : goal.returns-in_ok-said-in-None-clause-came
returns-in_ok-said-in-None-clause-came g c =
    let word = c.args.word.now in
    let further = map string_bytes c.args.further.now in
    said_at_once (CourseOf commands (word ∷ further)) (g.S.Store.state c.args.store.now) (Ok c.in_ok-said-in-None.said)
    (inr (other_word commands word further c.in-None.ensures, ap (λ x. says x) c.in_ok-said-in-None.ensures))
