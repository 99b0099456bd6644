use Rattle.std.proofs.lemmas.Result.{IfOk-weaker}
use Rattle.choice_reading.proofs.BeginningLemmas.{around_outer, around_one, around_none}
use Rattle.choice_reading.proofs.reading.begun_around.Goals as goal

pub returns-in_ok-state-in-Some : goal.returns-in_ok-state-in-Some
returns-in_ok-state-in-Some c =
    IfOk-weaker c.within_new-in-Some.result _ _ (λ new h on.
    around_outer c.args.behind c.args.parts c.args.rest on c.args.around c.args.outer c.in-Some.place c.in_ok-state-in-Some.state new c.in-Some.is c.in_ok-state-in-Some.ensures h) c.within_new-in-Some.ensures

pub returns-in-Some-around : goal.returns-in-Some-around
returns-in-Some-around c =
    IfOk-weaker c.within_new-in-Some-around.result _ _ (λ new h on.
    around_one c.args.behind c.args.parts c.args.rest on c.args.around c.args.outer c.in-Some-around.place new c.in-None.is c.in-Some-around.is h) c.within_new-in-Some-around.ensures

pub returns-in-None-around : goal.returns-in-None-around
returns-in-None-around c = λ on. around_none c.args.behind c.args.parts c.args.rest on c.args.around c.args.outer c.in-None.is c.in-None-around.is
