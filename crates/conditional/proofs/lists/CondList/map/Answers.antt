use Rattle.std.proofs.Common.{map, length, ap, arith}
use Rattle.cond_formula.specs.Conditions.{condition_of, value}
use Rattle.conditional.specs.Entries.{listed, seen}
use Rattle.conditional.proofs.ListLaws.{mapped_step, mapped_end}
use Rattle.conditional.proofs.lists.CondList.map.Goals as goal

pub loop-entry-preserved : goal.loop-entry-preserved
loop-entry-preserved g c = λ gives maps on.
    let same = c.deref-entry-items.ensures.value in
    mapped_step g.T.Plain.form gives on (value on (condition_of c.in_ok-try_clone.field-0)) c.args.self.now.entries.items c.entry-item.result c.loop-entry.entry-index (g.B.Plain.form c.in_ok-image.image)
    (seen on (listed g.B.Plain.form c.loop-entry.images)) (seen on (listed g.B.Plain.form c.push.new.self)) (map gives (seen on (listed g.T.Plain.form c.args.self.now)))
    (omega (arith, ap length same)) (rw same at c.entry-item.is) (ap (value on) c.in_ok-try_clone.ensures) (maps.maps c.entry-item.result.what c.in_ok-image.image c.in_ok-image.ensures)
    (c.loop-entry.invariant gives maps on) (c.in_ok-push.ensures on)

pub returns : goal.returns
returns g c = λ gives maps on.
    let same = c.deref-entry-items.ensures.value in
    mapped_end g.T.Plain.form gives on c.args.self.now.entries.items c.loop-entry.entry-index
    (seen on (listed g.B.Plain.form c.loop-entry.images)) (map gives (seen on (listed g.T.Plain.form c.args.self.now))) (omega (arith, ap length same)) (c.loop-entry.invariant gives maps on)
