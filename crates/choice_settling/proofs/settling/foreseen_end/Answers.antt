use Rattle.std.proofs.Common.{false, subst, IfSome}
use Rattle.grammar_moves.specs.PlainPlaces.{plain_place}
use Rattle.choice_lookahead.specs.Ahead.{EachEnds}
use Rattle.choice_settling.proofs.SettlingLemmas.{so_at, so_ended}
use Rattle.choice_settling.proofs.settling.foreseen_end.Goals as goal

pub returns-in_ok-ended-in-Some-clause-settled : goal.returns-in_ok-ended-in-Some-clause-settled
returns-in_ok-ended-in-Some-clause-settled c = λ outer.
    so_ended c.args.path.now c.args.here.now outer c.args.ahead.tokens.now c.args.place c.in_ok-ended-in-Some.ended c.in-Some.ending c.args.parts.now.items c.left_out.new.parts.items c.whole.result
    (subst (λ found. IfSome found (EachEnds c.args.path.now (plain_place c.args.place) c.args.ahead.tokens.now)) c.in-Some.is c.in_ok-ending.ensures)
    c.in_ok-ended-in-Some.ensures.behind c.in_ok-ended-in-Some.ensures.left_out c.whole.ensures

pub returns-in-None-clause-settled : goal.returns-in-None-clause-settled
returns-in-None-clause-settled c = λ outer inside on there holds begun.
    so_at c.args.path.now c.args.here.now outer c.args.ahead.tokens.now c.args.place false c.args.parts.now.items on there holds
