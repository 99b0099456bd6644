use Rattle.std.proofs.Common.{◌≡◌, List, [], ◌∷◌, length, refl, arith, Ok, String, Global, ap, inr, map, sym, subst}
use Rattle.std.specs.String.{string_bytes}
use Rattle.command_promises.specs.Courses.{says}
use Rattle.command_promises.specs.Sayings.{CameTo}
use Rattle.command_promises.specs.Commands.{CourseOf}
use Rattle.command_promises.proofs.Causes.{said_at_once}
use Rattle.command_promises.proofs.Promising.{no_word}
use Rattle.morpheus_top.specs.Commands.{commands}
use Rattle.morpheus_top.proofs.top.answer.Goals as goal

empty_of : (words : List (String Global)) → length words ≡ 0 → words ≡ []
empty_of [] e = refl
empty_of (word ∷ words) e = absurd (omega (arith, e))

pub returns-in_ok-said-in-None-clause-came : goal.returns-in_ok-said-in-None-clause-came
returns-in_ok-said-in-None-clause-came g c =
    let s = g.S.Store.state c.args.store.now in
    let empty : c.args.words.now ≡ [] = empty_of c.args.words.now c.in-None.ensures.cases in
    subst (λ (words : List (String Global)). CameTo (CourseOf commands (map string_bytes words)) s (Ok c.in_ok-said-in-None.said)) (sym empty)
    (said_at_once (CourseOf commands []) s (Ok c.in_ok-said-in-None.said) (inr (no_word commands, ap (λ x. says x) c.in_ok-said-in-None.ensures)))
