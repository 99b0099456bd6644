use Rattle.std.proofs.Common.{IfSome, subst, ◌∙◌}
use Rattle.std.proofs.lemmas.Result.{IfOk-weaker}
use Rattle.cond_formula.specs.Conditions.{condition_of}
use Rattle.path_conditions.specs.declared.presences.Presence.{Presence}
use Rattle.path_conditions.specs.Presences.{IsPresence}
use Rattle.choice_states.specs.declared.states.State.{Split}
use Rattle.choice_settling.specs.Leaving.{OnlyPlaces}
use Rattle.choice_settling.specs.Steps.{stood, seen_of}
use Rattle.choice_reading.proofs.PresenceLemmas.{places_split}
use Rattle.choice_reading.proofs.AfterReading.{reads_in}
use Rattle.choice_settling.proofs.Divisions.{divided_so}
use Rattle.choice_reading.proofs.StateReading.{split_so, so_at, so_as, so_closed, so_unbegun, so_dead, so_taken}
use Rattle.choice_reading.proofs.reading.+read.Goals as goal

pub returns-in-Some-clause-reads : goal.returns-in-Some-clause-reads
returns-in-Some-clause-reads g t c =
    let places : OnlyPlaces c.deref.result.now × OnlyPlaces c.deref-in-Split.result.now =
    subst (λ found. IfSome found (λ (p : Presence). OnlyPlaces c.deref.result.now × OnlyPlaces c.deref-in-Split.result.now)) c.in-Some.is c.in_ok-presence-in-Split.ensures.places in
    IfOk-weaker c.read_alike.result _ _ (λ new h.
    so_as (g.O.Oracle.admits c.args.oracle.now) (condition_of c.args.reading.token.now.when) c.args.setting.path.now c.args.setting.here.now c.args.setting.outer c.args.reading.terminal (seen_of c.args.reading.number c.args.reading.token.now) c.args.parts.now.items c.args.state (Split c.in-Split.f c.in-Split.first c.in-Split.second) (stood new c.read_alike.new.parts.items) c.in-Split.is
    (h (places_split c.in-Split.f c.in-Split.first c.in-Split.second (subst OnlyPlaces c.deref.ensures places.0) (subst OnlyPlaces c.deref-in-Split.ensures places.1)) (g.O.Oracle.admits c.args.oracle.now)
    (subst (λ found. IfSome found (IsPresence (g.O.Oracle.admits c.args.oracle.now) c.args.setting.path.now (condition_of c.args.reading.token.now.when))) c.in-Some.is c.in_ok-presence-in-Split.ensures.presence))) c.read_alike.ensures.reads

pub returns-in-At-clause-reads : goal.returns-in-At-clause-reads
returns-in-At-clause-reads g t c =
    IfOk-weaker c.read_at.result _ _ (λ new h. so_at (g.O.Oracle.admits c.args.oracle.now) (condition_of c.args.reading.token.now.when) c.args.setting.path.now c.args.setting.here.now c.args.setting.outer c.args.reading.terminal (seen_of c.args.reading.number c.args.reading.token.now) c.args.parts.now.items c.args.state c.in-At.place c.in-At.new (stood new c.read_at.new.parts.items) c.in-At.is h) c.read_at.ensures.reads

pub returns-in_ok-rest-in-In-clause-reads : goal.returns-in_ok-rest-in-In-clause-reads
returns-in_ok-rest-in-In-clause-reads g t c =
    IfOk-weaker c.read_behind.result _ _ (λ new h.
    reads_in (g.O.Oracle.admits c.args.oracle.now) (g.O.Oracle.admits c.read.new.oracle) (condition_of c.args.reading.token.now.when) c.args.setting.path.now c.args.setting.here.now c.inside-inside.result.path.now c.inside-inside.result.here.now c.args.setting.outer c.inside-inside.result.outer c.in-In.place
    c.args.reading.terminal (seen_of c.args.reading.number c.args.reading.token.now) c.in-In.inner c.in-In.rest c.args.state c.into_inner.result c.in_ok-rest-in-In.rest new c.args.parts.now.items c.read.new.parts.items c.read_behind.new.parts.items
    c.in-In.is c.inside-inside.ensures.path c.inside-inside.ensures.here c.inside-inside.ensures.outer c.in_ok-rest-in-In.ensures.kept c.into_inner.ensures c.in_ok-rest-in-In.ensures.reads h) c.read_behind.ensures.reads

pub returns-in_ok-second-in-Split-clause-reads : goal.returns-in_ok-second-in-Split-clause-reads
returns-in_ok-second-in-Split-clause-reads g t c =
    IfOk-weaker c.joined.result _ _ (λ new h.
    split_so c.args.setting.path.now c.args.setting.here.now c.on-there.result.path.now c.on-there.result.here.now c.on-elsewhere.result.path.now c.on-elsewhere.result.here.now c.in-Split.f
    c.args.parts.now.items c.read-in-Split.new.parts.items c.read-in-Split-2.new.parts.items c.args.setting.outer c.args.reading.terminal (seen_of c.args.reading.number c.args.reading.token.now) c.in-Split.first c.in-Split.second c.args.state c.into_inner-in-Split.result c.into_inner-in-Split-2.result
    c.in_ok-first-in-Split.first c.in_ok-second-in-Split.second new c.in-Split.is c.into_inner-in-Split.ensures c.into_inner-in-Split-2.ensures
    (divided_so c.args.setting.path.now c.in-Split.f c.in_ok-first_side-in-Split.first_side.path.items c.in_ok-second_side-in-Split.second_side.path.items c.on-there.result.path.now c.on-elsewhere.result.path.now c.on-there.ensures.path c.on-elsewhere.ensures.path c.in_ok-first_side-in-Split.ensures.path c.in_ok-second_side-in-Split.ensures.path)
    (divided_so c.args.setting.here.now c.in-Split.f c.in_ok-first_side-in-Split.first_side.here.items c.in_ok-second_side-in-Split.second_side.here.items c.on-there.result.here.now c.on-elsewhere.result.here.now c.on-there.ensures.here c.on-elsewhere.ensures.here c.in_ok-first_side-in-Split.ensures.here c.in_ok-second_side-in-Split.ensures.here)
    c.in_ok-first-in-Split.ensures.elsewhere c.in_ok-second-in-Split.ensures.elsewhere
    (g.O.Oracle.admits c.args.oracle.now) (g.O.Oracle.admits c.split_presence.new.oracle) (g.O.Oracle.admits c.read-in-Split.new.oracle) (condition_of c.args.reading.token.now.when) c.on-there.result.outer c.on-elsewhere.result.outer c.in_ok-presence-in-Split.ensures.kept (c.in_ok-first-in-Split.ensures.kept ∙ c.in_ok-presence-in-Split.ensures.kept)
    c.on-there.ensures.outer c.on-elsewhere.ensures.outer h
    c.in_ok-first-in-Split.ensures.reads c.in_ok-second-in-Split.ensures.reads) c.joined.ensures

pub returns-in-Dead-clause-reads : goal.returns-in-Dead-clause-reads
returns-in-Dead-clause-reads g t c = so_dead (g.O.Oracle.admits c.args.oracle.now) (condition_of c.args.reading.token.now.when) c.args.setting.path.now c.args.setting.here.now c.args.setting.outer c.args.reading.terminal (seen_of c.args.reading.number c.args.reading.token.now) c.args.parts.now.items c.args.state c.in-Dead.is

pub returns-in-Closed-clause-reads : goal.returns-in-Closed-clause-reads
returns-in-Closed-clause-reads g t c = so_closed (g.O.Oracle.admits c.args.oracle.now) (condition_of c.args.reading.token.now.when) c.args.setting.path.now c.args.setting.here.now c.args.setting.outer c.args.reading.terminal (seen_of c.args.reading.number c.args.reading.token.now) c.args.parts.now.items c.args.state c.in-Closed.closing c.in-Closed.is

pub returns-in-Unbegun-clause-reads : goal.returns-in-Unbegun-clause-reads
returns-in-Unbegun-clause-reads g t c = so_unbegun (g.O.Oracle.admits c.args.oracle.now) (condition_of c.args.reading.token.now.when) c.args.setting.path.now c.args.setting.here.now c.args.setting.outer c.args.reading.terminal (seen_of c.args.reading.number c.args.reading.token.now) c.args.parts.now.items c.args.state c.in-Unbegun.around c.in-Unbegun.waits c.in-Unbegun.is

pub returns-in-Taken-clause-reads : goal.returns-in-Taken-clause-reads
returns-in-Taken-clause-reads g t c = so_taken (g.O.Oracle.admits c.args.oracle.now) (condition_of c.args.reading.token.now.when) c.args.setting.path.now c.args.setting.here.now c.args.setting.outer c.args.reading.terminal (seen_of c.args.reading.number c.args.reading.token.now) c.args.parts.now.items c.args.state c.in-Taken.behind c.in-Taken.second c.in-Taken.is
