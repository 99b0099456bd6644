use Rattle.std.proofs.Common.{false}
use Rattle.grammar_moves.specs.PlainPlaces.{plain_place}
use Rattle.choice_states.specs.declared.states.State.{Closed}
use Rattle.choice_states.specs.States.{standing}
use Rattle.choice_states.specs.StateLaws.{standing-Closed}
use Rattle.choice_settling.proofs.PlaceLemmas.{closes_alike}
use Rattle.choice_settling.proofs.places.whole.Goals as goal

pub returns : goal.returns
returns c = λ on parts.
    closes_alike c.args.kind (plain_place c.args.ended) (plain_place c.ending.result) parts
    (standing (Closed (record { kind = c.args.kind; ended = c.ending.result; waited_for = false })) on parts) c.ending.ensures
    (standing-Closed (record { kind = c.args.kind; ended = c.ending.result; waited_for = false }) on parts)
