use Rattle.std.proofs.Common.{refl}
use Rattle.std.proofs.lemmas.Result.{IfOk-weaker}
use Rattle.cond_formula.specs.Conditions.{condition_of}
use Rattle.choice_states.specs.declared.states.State.{Dead, In}
use Rattle.choice_settling.specs.Steps.{seen_of}
use Rattle.choice_reading.proofs.AfterReading.{after_dead, after_open, after_whole, after_unbegun, after_split}
use Rattle.choice_settling.proofs.Divisions.{divided_so}
use Rattle.choice_reading.proofs.reading.+read_after.Goals as goal

pub returns-in-Dead-clause-reads : goal.returns-in-Dead-clause-reads
returns-in-Dead-clause-reads g t c =
    after_dead (g.O.Oracle.admits c.args.oracle.now) (condition_of c.args.reading.token.now.when) c.args.setting.path.now c.args.setting.here.now c.args.setting.outer c.args.place c.args.reading.terminal (seen_of c.args.reading.number c.args.reading.token.now) c.args.parts.now.items c.args.parts.now.items c.args.after Dead c.in-Dead.is refl

pub returns-in-Open-clause-reads : goal.returns-in-Open-clause-reads
returns-in-Open-clause-reads g t c =
    after_open (g.O.Oracle.admits c.args.oracle.now) (condition_of c.args.reading.token.now.when) c.args.setting.path.now c.args.setting.here.now c.args.setting.outer c.args.place c.args.reading.terminal (seen_of c.args.reading.number c.args.reading.token.now) c.args.parts.now.items c.args.parts.now.items c.args.after (In c.args.place c.in-Open.inner c.in-Open.rest) c.in-Open.inner c.in-Open.rest c.in-Open.is refl refl

pub returns-in_ok-push-in-Whole-clause-reads : goal.returns-in_ok-push-in-Whole-clause-reads
returns-in_ok-push-in-Whole-clause-reads g t c =
    IfOk-weaker c.read_at.result _ _ (λ new h.
    after_whole (g.O.Oracle.admits c.args.oracle.now) (condition_of c.args.reading.token.now.when) c.args.setting.path.now c.args.setting.here.now c.args.setting.outer c.args.place c.args.reading.terminal (seen_of c.args.reading.number c.args.reading.token.now) c.args.parts.now.items c.read_at.new.parts.items c.args.after new
    c.in-Whole.part c.in-Whole.ended c.back-behind.result c.push.new.parts.items c.in-Whole.is c.back-behind.ensures c.in_ok-push-in-Whole.ensures.pushed h) c.read_at.ensures.reads

pub returns-in-Unbegun-clause-reads : goal.returns-in-Unbegun-clause-reads
returns-in-Unbegun-clause-reads g t c =
    IfOk-weaker c.read_at-in-Unbegun.result _ _ (λ new h.
    after_unbegun (g.O.Oracle.admits c.args.oracle.now) (condition_of c.args.reading.token.now.when) c.args.setting.path.now c.args.setting.here.now c.args.setting.outer c.args.place c.args.reading.terminal (seen_of c.args.reading.number c.args.reading.token.now) c.args.parts.now.items c.read_at-in-Unbegun.new.parts.items c.args.after new c.in-Unbegun.around c.in-Unbegun.is h) c.read_at-in-Unbegun.ensures.reads

pub returns-in_ok-second-in-Split-clause-reads : goal.returns-in_ok-second-in-Split-clause-reads
returns-in_ok-second-in-Split-clause-reads g t c =
    IfOk-weaker c.joined.result _ _ (λ new h.
    after_split (g.O.Oracle.admits c.args.oracle.now) (g.O.Oracle.admits c.read_after.new.oracle) (condition_of c.args.reading.token.now.when) c.args.setting.path.now c.args.setting.here.now c.on-there.result.path.now c.on-there.result.here.now c.on-elsewhere.result.path.now c.on-elsewhere.result.here.now c.in-Split.f c.args.setting.outer c.args.place c.args.reading.terminal (seen_of c.args.reading.number c.args.reading.token.now)
    c.args.parts.now.items c.read_after.new.parts.items c.read_after-in-Split.new.parts.items c.args.after c.in-Split.first c.in-Split.second c.into_inner-first.result c.into_inner-second.result
    c.in_ok-first-in-Split.first c.in_ok-second-in-Split.second new c.on-there.result.outer c.on-elsewhere.result.outer c.on-there.ensures.outer c.on-elsewhere.ensures.outer c.in-Split.is c.into_inner-first.ensures c.into_inner-second.ensures c.in_ok-first-in-Split.ensures.kept
    (divided_so c.args.setting.path.now c.in-Split.f c.in_ok-first_side-in-Split.first_side.path.items c.in_ok-second_side-in-Split.second_side.path.items c.on-there.result.path.now c.on-elsewhere.result.path.now c.on-there.ensures.path c.on-elsewhere.ensures.path c.in_ok-first_side-in-Split.ensures.path c.in_ok-second_side-in-Split.ensures.path)
    (divided_so c.args.setting.here.now c.in-Split.f c.in_ok-first_side-in-Split.first_side.here.items c.in_ok-second_side-in-Split.second_side.here.items c.on-there.result.here.now c.on-elsewhere.result.here.now c.on-there.ensures.here c.on-elsewhere.ensures.here c.in_ok-first_side-in-Split.ensures.here c.in_ok-second_side-in-Split.ensures.here)
    c.in_ok-first-in-Split.ensures.elsewhere c.in_ok-second-in-Split.ensures.elsewhere h c.in_ok-first-in-Split.ensures.reads c.in_ok-second-in-Split.ensures.reads) c.joined.ensures
