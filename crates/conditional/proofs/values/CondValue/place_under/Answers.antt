use Rattle.std.proofs.Common.{length, ap, arith}
use Rattle.cond_formula.specs.Conditions.{condition_of, value}
use Rattle.conditional.specs.Entries.{alternatives}
use Rattle.conditional.proofs.ValueLaws.{placed_step, placed_end}
use Rattle.conditional.proofs.values.CondValue.place_under.Goals as goal

pub loop-alternative-preserved : goal.loop-alternative-preserved
loop-alternative-preserved g c = λ on.
    let same = c.deref-alternative-items.ensures.value in
    placed_step g.T.Plain.form on (value on (condition_of c.args.when.now)) (condition_of c.in_ok-here.here) c.args.other.now.alternatives.items c.alternative-item.result c.loop-alternative.alternative-index _
    (alternatives g.T.Plain.form c.args.self.now) _ _
    (omega (arith, ap length same)) (rw same at c.alternative-item.is) (c.in_ok-here.ensures on) c.in_ok-try_clone.ensures (c.loop-alternative.invariant on) (c.in_ok-place.ensures on)

pub returns : goal.returns
returns g c = λ on.
    let same = c.deref-alternative-items.ensures.value in
    placed_end g.T.Plain.form on (condition_of c.args.when.now) c.args.other.now.alternatives.items c.loop-alternative.alternative-index (alternatives g.T.Plain.form c.args.self.now) _
    (omega (arith, ap length same)) (c.loop-alternative.invariant on)
