use Rattle.std.proofs.Common.{false, sym, subst}
use Rattle.std.proofs.lemmas.Result.{IfOk-weaker}
use Rattle.choice_settling.specs.Steps.{stood, SettlesSo}
use Rattle.choice_settling.proofs.SettlingLemmas.{at_spot, so_at}
use Rattle.choice_settling.proofs.settling.foreseen.Goals as goal

pub returns-in-Some-clause-settled : goal.returns-in-Some-clause-settled
returns-in-Some-clause-settled c = IfOk-weaker c.foreseen_inside.result _ _ (λ new settles.
    subst (λ outer. SettlesSo c.args.path.now c.args.here.now outer c.args.ahead.tokens.now (at_spot c.args.place c.args.parts.now.items) (stood new c.foreseen_inside.new.parts.items)) (sym c.in-Some.is) settles)
    c.foreseen_inside.ensures.settled

pub returns-in-None-clause-settled : goal.returns-in-None-clause-settled
returns-in-None-clause-settled c = so_at c.args.path.now c.args.here.now c.args.outer c.args.ahead.tokens.now c.args.place false c.args.parts.now.items
