use Rattle.std.proofs.Common.{length, ap, arith}
use Rattle.cond_formula.specs.Conditions.{condition_of}
use Rattle.conditional.specs.Entries.{alternatives}
use Rattle.conditional.proofs.ValueLaws.{image_start, image_step, image_end}
use Rattle.conditional.proofs.values.CondValue.map.Goals as goal

pub loop-alternative-init : goal.loop-alternative-init
loop-alternative-init g c = λ gives maps on. image_start on gives (alternatives g.T.Plain.form c.args.self.now) _ (c.nothing-images.ensures on)

pub loop-alternative-preserved : goal.loop-alternative-preserved
loop-alternative-preserved g c = λ gives maps on.
    let same = c.deref-alternative-items.ensures.value in
    image_step g.T.Plain.form gives on (condition_of c.in_ok-try_clone.field-0) c.args.self.now.alternatives.items c.alternative-item.result c.loop-alternative.alternative-index (g.B.Plain.form c.in_ok-image.image) _ _
    (omega (arith, ap length same)) (rw same at c.alternative-item.is) c.in_ok-try_clone.ensures (maps.maps c.alternative-item.result.what c.in_ok-image.image c.in_ok-image.ensures)
    (c.loop-alternative.invariant gives maps on) (c.in_ok-place.ensures on)

pub returns : goal.returns
returns g c = λ gives maps on o s.
    let same = c.deref-alternative-items.ensures.value in
    image_end g.T.Plain.form gives on c.args.self.now.alternatives.items c.loop-alternative.alternative-index _ (omega (arith, ap length same)) (c.loop-alternative.invariant gives maps on) o s
