use Rattle.std.proofs.Common.{refl}
use Rattle.std.proofs.lemmas.Result.{IfOk-weaker}
use Rattle.choice_settling.specs.Steps.{seen_of}
use Rattle.choice_reading.proofs.PushReading.{reads_alike}
use Rattle.choice_reading.proofs.reading.read_places.Goals as goal

pub returns-in_ok-push_token-clause-reads : goal.returns-in_ok-push_token-clause-reads
returns-in_ok-push_token-clause-reads c =
    IfOk-weaker c.moved.result _ _ (λ new h.
    reads_alike c.args.setting.path.now c.args.setting.here.now c.args.setting.outer c.args.reading.terminal (seen_of c.args.reading.number c.args.reading.token.now) c.args.state.now new c.args.parts.now.items c.push_token.new.parts.items
    (c.pushes_alike.ensures.pushes c.if-pushes_alike.true) (c.pushes_alike.ensures.stands c.if-pushes_alike.true) h
    (λ on here. (c.in_ok-push_token.ensures.pushed on here refl).values_are)) c.moved.ensures
