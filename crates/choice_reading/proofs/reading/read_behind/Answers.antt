use Rattle.std.proofs.lemmas.Result.{IfOk-weaker}
use Rattle.cond_formula.specs.Conditions.{condition_of}
use Rattle.choice_states.specs.Seen.{seen_in}
use Rattle.choice_states.specs.States.{becoming}
use Rattle.choice_settling.specs.Steps.{stood, seen_of}
use Rattle.choice_reading.proofs.AfterReading.{reads_inside, reads_behind}
use Rattle.choice_reading.proofs.reading.read_behind.Goals as goal

pub returns-clause-reads : goal.returns-clause-reads
returns-clause-reads g c =
    IfOk-weaker c.read_after.result _ _ (λ new h.
    reads_behind (g.O.Oracle.admits c.args.oracle.now) c.args.reading.token.now.when c.args.setting.path.now c.args.setting.here.now c.args.setting.outer c.args.place c.args.reading.terminal (seen_of c.args.reading.number c.args.reading.token.now)
    (stood c.args.state c.args.inner.items) (becoming c.in_ok-after.after) (λ on. seen_in on c.args.parts.now.items) (stood new c.read_after.new.parts.items) c.in_ok-after.ensures h) c.read_after.ensures.reads

pub returns-then-is_inside-clause-reads : goal.returns-then-is_inside-clause-reads
returns-then-is_inside-clause-reads g c =
    reads_inside (g.O.Oracle.admits c.args.oracle.now) (condition_of c.args.reading.token.now.when) c.args.setting.path.now c.args.setting.here.now c.args.setting.outer c.args.place c.args.reading.terminal
    (seen_of c.args.reading.number c.args.reading.token.now) c.args.state c.args.inner c.in_ok-new.field-0 c.args.parts.now.items (c.is_inside.ensures c.if-is_inside.true) c.in_ok-new.ensures.ok
