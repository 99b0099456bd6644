use Rattle.std.proofs.lemmas.Result.{IfOk-weaker}
use Rattle.choice_reading.proofs.PushReading.{moves_either}
use Rattle.choice_reading.proofs.reading.+moved.Goals as goal

pub returns-in_ok-try_clone-in-Split : goal.returns-in_ok-try_clone-in-Split
returns-in_ok-try_clone-in-Split t c =
    IfOk-weaker c.joined.result _ _ (λ new h.
    moves_either c.args.reading.terminal c.in-Split.f c.in_ok-try_clone-in-Split.field-0 c.in-Split.first c.in-Split.second c.args.state.now c.deref.result.now c.deref-in-Split.result.now
    c.in_ok-first-in-Split.first c.in_ok-second-in-Split.second new c.in-Split.is c.deref.ensures c.deref-in-Split.ensures c.in_ok-try_clone-in-Split.ensures h
    c.in_ok-first-in-Split.ensures c.in_ok-second-in-Split.ensures) c.joined.ensures
