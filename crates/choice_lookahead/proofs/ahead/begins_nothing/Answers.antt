use Rattle.grammar_moves.specs.PlainPlaces.{plain_place}
use Rattle.choice_lookahead.proofs.Asking.{last_beginning}
use Rattle.choice_lookahead.proofs.ahead.begins_nothing.Goals as goal

pub returns : goal.returns
returns c =
    last_beginning c.args.path.now c.loop-entry.known.items (plain_place c.args.place) c.args.ahead.now c.loop-entry.entry-index c.enters-2.result
    c.loop-entry-test.false c.loop-entry.invariant c.enters-2.ensures
