use Rattle.std.proofs.Common.{length, ap, ◌++◌, arith}
use Rattle.cond_formula.specs.Conditions.{condition_of, value}
use Rattle.conditional.specs.Entries.{listed, seen, under}
use Rattle.conditional.proofs.ListLaws.{copied_step, copied_end}
use Rattle.conditional.proofs.lists.CondList.append_under.Goals as goal

pub loop-entry-preserved : goal.loop-entry-preserved
loop-entry-preserved g c = λ on.
    let same = c.deref-entry-items.ensures.value in
    copied_step g.T.Plain.form on (value on (condition_of c.args.when.now)) (value on (condition_of c.in_ok-here.here)) c.args.other.now.entries.items c.entry-item.result c.loop-entry.entry-index (g.T.Plain.form c.in_ok-try_clone.field-0)
    (seen on (listed g.T.Plain.form c.loop-entry.self)) (seen on (listed g.T.Plain.form c.push.new.self))
    (seen on (listed g.T.Plain.form c.args.self.now) ++ under (value on (condition_of c.args.when.now)) (seen on (listed g.T.Plain.form c.args.other.now)))
    (omega (arith, ap length same)) (rw same at c.entry-item.is) (c.in_ok-here.ensures on) c.in_ok-try_clone.ensures (c.loop-entry.invariant on) (c.in_ok-push.ensures on)

pub returns : goal.returns
returns g c = λ on.
    let same = c.deref-entry-items.ensures.value in
    copied_end g.T.Plain.form on (value on (condition_of c.args.when.now)) c.args.other.now.entries.items c.loop-entry.entry-index
    (seen on (listed g.T.Plain.form c.loop-entry.self)) (seen on (listed g.T.Plain.form c.args.self.now) ++ under (value on (condition_of c.args.when.now)) (seen on (listed g.T.Plain.form c.args.other.now))) (omega (arith, ap length same)) (c.loop-entry.invariant on)
