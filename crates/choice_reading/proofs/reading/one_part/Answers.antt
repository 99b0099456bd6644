use Rattle.std.proofs.Common.{ap, ◌∙◌}
use Rattle.cond_formula.specs.Conditions.{conditions_of, all_true}
use Rattle.grammar_moves.specs.PlainPlaces.{plain_place}
use Rattle.choice_states.specs.Seen.{seen_in}
use Rattle.choice_states.specs.Parts.{parts_fit_within}
use Rattle.choice_settling.specs.Steps.{seen_of}
use Rattle.choice_reading.proofs.BeginningLemmas.{one_first}
use Rattle.choice_reading.proofs.reading.one_part.Goals as goal

pub returns : goal.returns
returns c = λ fits on.
    one_first (plain_place c.args.inner) (seen_in on c.new-parts.result.items) (seen_in on c.push_token.new.parts.items)
    (seen_of c.args.reading.number c.args.reading.token.now) (ap (seen_in on) c.new-parts.ensures.items)
    (c.in_ok-push_token.ensures.pushed on (ap (λ fs. all_true on (conditions_of fs)) (c.deref.ensures.value ∙ c.new-here.ensures.items))
    (ap (λ ps. parts_fit_within (plain_place c.args.inner) (seen_in on ps)) c.new-parts.ensures.items ∙ fits))
