use Rattle.std.proofs.Common.{◌++◌}
use Rattle.std.proofs.lemmas.Result.{IfOk-weaker}
use Rattle.grammar_moves.specs.PlainPlaces.{plain_place, plain_around}
use Rattle.choice_settling.specs.Steps.{seen_of}
use Rattle.choice_reading.proofs.BeginningLemmas.{begun_with, around_all, around_both}
use Rattle.choice_reading.proofs.reading.begun.Goals as goal

pub returns-in_ok-state-in-Some-2 : goal.returns-in_ok-state-in-Some-2
returns-in_ok-state-in-Some-2 c =
    IfOk-weaker c.within_new-in-Some-2.result _ _ (λ new h.
    begun_with (plain_place c.args.behind) (plain_around c.args.beginning.around ++ (plain_around c.args.beginning.start.around ++ plain_around c.args.beginning.start.start.around)) c.args.beginning.start.start.skips
    c.args.beginning.start.start.inner (seen_of c.args.reading.number c.args.reading.token.now) c.in_ok-parts.parts.items c.in_ok-rest.rest new c.in_ok-rest.ensures.ok c.in_ok-parts.ensures (λ on.
    around_all c.args.behind c.in_ok-parts.parts c.in_ok-rest.rest on c.args.beginning.around c.args.beginning.start.around c.args.beginning.start.start.around c.in-Some.place c.in_ok-state-in-Some.state c.in_ok-state-in-Some-2.state new
    c.in-Some.is c.in_ok-state-in-Some.ensures c.in_ok-state-in-Some-2.ensures h)) c.within_new-in-Some-2.ensures

pub returns-in-None : goal.returns-in-None
returns-in-None c =
    IfOk-weaker c.begun_around.result _ _ (λ new h.
    begun_with (plain_place c.args.behind) (plain_around c.args.beginning.around ++ (plain_around c.args.beginning.start.around ++ plain_around c.args.beginning.start.start.around)) c.args.beginning.start.start.skips
    c.args.beginning.start.start.inner (seen_of c.args.reading.number c.args.reading.token.now) c.in_ok-parts.parts.items c.in_ok-rest.rest new c.in_ok-rest.ensures.ok c.in_ok-parts.ensures (λ on parts.
    around_both c.args.behind c.in_ok-parts.parts c.in_ok-rest.rest on c.args.beginning.around c.args.beginning.start.around c.args.beginning.start.start.around new c.in-None.is parts (h on parts))) c.begun_around.ensures
