use Rattle.std.proofs.Common.{◌∙◌}
use Rattle.grammar_moves.specs.PlainPlaces.{plain_place}
use Rattle.choice_states.specs.Seen.{choice_seen, seen_in}
use Rattle.choice_states.specs.StateLaws.{becoming-Whole}
use Rattle.choice_states.proofs.Wholes.{whole_stands}
use Rattle.choice_states.proofs.closings.whole.Goals as goal

pub returns : goal.returns
returns c = λ on fits.
    becoming-Whole c.in_ok-part.part c.args.closing.ended on
    ∙ whole_stands c.args.closing.kind (plain_place c.args.closing.ended) (seen_in on c.args.parts.items) (choice_seen on c.in_ok-part.part) fits (c.in_ok-part.ensures on fits)
