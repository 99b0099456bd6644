use Rattle.std.proofs.lemmas.Result.{IfOk-weaker}
use Rattle.choice_settling.specs.Steps.{stood, seen_of}
use Rattle.choice_reading.proofs.PushReading.{reads_at_place}
use Rattle.choice_settling.proofs.Divisions.{divided_so}
use Rattle.choice_reading.proofs.StateReading.{split_places}
use Rattle.choice_reading.proofs.reading.+read_each.Goals as goal

pub returns-in-At-clause-reads : goal.returns-in-At-clause-reads
returns-in-At-clause-reads t c =
    IfOk-weaker c.read_there.result _ _ (λ new h.
    reads_at_place c.args.setting.path.now c.args.setting.here.now c.args.setting.outer c.args.reading.terminal (seen_of c.args.reading.number c.args.reading.token.now) c.args.state.now c.in-At.place c.in-At.field-1 c.args.parts.now.items
    (stood new c.read_there.new.parts.items) c.in-At.is h) c.read_there.ensures.reads

pub returns-in_ok-try_clone-in-Split-clause-reads : goal.returns-in_ok-try_clone-in-Split-clause-reads
returns-in_ok-try_clone-in-Split-clause-reads t c =
    IfOk-weaker c.joined.result _ _ (λ new h.
    split_places c.args.setting.path.now c.args.setting.here.now c.on-there.result.path.now c.on-there.result.here.now c.on-elsewhere.result.path.now c.on-elsewhere.result.here.now c.in-Split.f
    c.args.parts.now.items c.read_each.new.parts.items c.read_each-in-Split.new.parts.items c.args.setting.outer c.args.reading.terminal (seen_of c.args.reading.number c.args.reading.token.now) c.in-Split.first c.in-Split.second c.args.state.now c.deref.result.now c.deref-in-Split.result.now
    c.in_ok-first-in-Split.first c.in_ok-second-in-Split.second new c.in-Split.is c.deref.ensures c.deref-in-Split.ensures
    (divided_so c.args.setting.path.now c.in-Split.f c.in_ok-first_side-in-Split.first_side.path.items c.in_ok-second_side-in-Split.second_side.path.items c.on-there.result.path.now c.on-elsewhere.result.path.now c.on-there.ensures.path c.on-elsewhere.ensures.path c.in_ok-first_side-in-Split.ensures.path c.in_ok-second_side-in-Split.ensures.path)
    (divided_so c.args.setting.here.now c.in-Split.f c.in_ok-first_side-in-Split.first_side.here.items c.in_ok-second_side-in-Split.second_side.here.items c.on-there.result.here.now c.on-elsewhere.result.here.now c.on-there.ensures.here c.on-elsewhere.ensures.here c.in_ok-first_side-in-Split.ensures.here c.in_ok-second_side-in-Split.ensures.here)
    c.in_ok-first-in-Split.ensures.elsewhere c.in_ok-second-in-Split.ensures.elsewhere c.in_ok-try_clone-in-Split.field-0 c.on-there.result.outer c.on-elsewhere.result.outer c.in_ok-try_clone-in-Split.ensures c.on-there.ensures.outer c.on-elsewhere.ensures.outer h
    c.in_ok-first-in-Split.ensures.reads c.in_ok-second-in-Split.ensures.reads) c.joined.ensures
