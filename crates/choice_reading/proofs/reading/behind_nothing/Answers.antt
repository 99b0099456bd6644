use Rattle.std.proofs.Common.{ap, ◌∙◌}
use Rattle.cond_formula.specs.Conditions.{conditions_of, all_true}
use Rattle.grammar_moves.specs.PlainPlaces.{plain_place}
use Rattle.choice_states.specs.Seen.{seen_in}
use Rattle.choice_settling.specs.Steps.{seen_of}
use Rattle.choice_reading.proofs.BeginningLemmas.{two_first}
use Rattle.choice_reading.proofs.reading.behind_nothing.Goals as goal

pub returns : goal.returns
returns c = λ fits on.
    two_first (plain_place c.args.inner) (seen_in on c.new-parts.result.items) (seen_in on c.push_nothing.new.parts.items) (seen_in on c.push_token.new.parts.items)
    (seen_of c.args.reading.number c.args.reading.token.now) (ap (seen_in on) c.new-parts.ensures.items)
    (c.in_ok-push_nothing.ensures.pushed on (ap (λ fs. all_true on (conditions_of fs)) (c.deref.ensures.value ∙ c.new-here.ensures.items)) (fits (seen_in on c.new-parts.result.items)))
    (c.in_ok-push_token.ensures.pushed on (ap (λ fs. all_true on (conditions_of fs)) (c.deref-2.ensures.value ∙ c.new-here.ensures.items)) (fits (seen_in on c.push_nothing.new.parts.items)))
