use Rattle.std.proofs.Common.{arith}
use Rattle.cond_formula.specs.Conditions.{condition_of}
use Rattle.conditional.specs.Entries.{entries_of}
use Rattle.conditional.specs.Judgements.{checked}
use Rattle.conditional.proofs.CrossingLaws.{alternatives_start, judged_step, alternatives_end}
use Rattle.conditional.proofs.judging.each_judged.Goals as goal

pub loop-x-init : goal.loop-x-init
loop-x-init g c = λ gives maps on a sx. alternatives_start g.C.Plain.form g.R.Plain.form on (gives a) (entries_of g.A.Plain.form c.args.xs.now) c.nothing-all.result sx.held (c.nothing-all.ensures on (gives a))

pub loop-x-preserved : goal.loop-x-preserved
loop-x-preserved g c = λ gives maps on a sx.
    judged_step g.A.Plain.form g.C.Plain.form g.R.Plain.form on gives c.args.xs.now c.x-item.result c.loop-x.x-index (checked g.C.Plain.form g.R.Plain.form c.in_ok-outcome.outcome) (condition_of c.in_ok-try_clone.field-0) c.loop-x.all c.place.new.self
    c.loop-x-test.true c.x-item.is c.in_ok-try_clone.ensures (maps.maps c.x-item.result.what c.in_ok-outcome.outcome c.in_ok-outcome.ensures) (c.in_ok-place.ensures on) a sx
    (c.loop-x.invariant gives maps on a sx)

pub returns : goal.returns
returns g c = λ gives maps on a sx. alternatives_end g.A.Plain.form g.C.Plain.form g.R.Plain.form on (gives a) c.args.xs.now c.loop-x.x-index c.loop-x.all (omega arith) (c.loop-x.invariant gives maps on a sx)
