use Rattle.std.proofs.Common.{refl, ap, ◌∙◌}
use Rattle.grammar_moves.specs.PlainPlaces.{plain_place}
use Rattle.choice_states.specs.Seen.{seen_in}
use Rattle.choice_states.specs.Parts.{values}
use Rattle.choice_states.proofs.PartLists.{none_behind, some_behind}
use Rattle.choice_states.proofs.Fitting.{pushed_unnumbered}
use Rattle.choice_states.proofs.pushes.push_part.Goals as goal

pub returns-in_ok-push-in-None-clause-elsewhere : goal.returns-in_ok-push-in-None-clause-elsewhere
returns-in_ok-push-in-None-clause-elsewhere c = λ on none.
    ap (seen_in on) c.in_ok-push-in-None.ensures.items ∙ none_behind on c.args.parts.now.items c.args.part none

pub returns-in_ok-push-in-None-clause-pushed : goal.returns-in_ok-push-in-None-clause-pushed
returns-in_ok-push-in-None-clause-pushed c = λ on v some within.
    pushed_unnumbered (plain_place c.args.behind) (seen_in on c.args.parts.now.items) (seen_in on c.push.new.self.items) v (c.in-None.ensures.none refl) within
    (ap (λ xs. values (seen_in on xs)) c.in_ok-push-in-None.ensures.items ∙ some_behind on c.args.parts.now.items c.args.part v some)
