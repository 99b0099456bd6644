use Rattle.grammar_moves.specs.PlainPlaces.{plain_place}
use Rattle.choice_lookahead.proofs.Asking.{last_ending}
use Rattle.choice_lookahead.proofs.ahead.next_ending.Goals as goal

pub returns : goal.returns
returns c =
    last_ending c.args.path.now c.loop-entry.known.items (plain_place c.args.place) c.args.ahead.now c.loop-entry.found c.loop-entry.entry-index c.also_ending-2.result
    c.loop-entry-test.false c.loop-entry.invariant c.also_ending-2.ensures.ends c.also_ending-2.ensures.others
