use Rattle.conditional.proofs.CrossingLaws.{one_judged}
use Rattle.conditional.proofs.judging.judged.Goals as goal

pub returns : goal.returns
returns g c = λ gives maps on a sx.
    one_judged g.A.Plain.form g.C.Plain.form g.R.Plain.form on gives c.args.x c.in_ok-all.all c.in_ok-all-2.all
    (let same = c.deref.ensures.value in let all = c.in_ok-all.ensures gives maps on in rw same at all)
    (record { values = c.in_ok-all-2.ensures.values; refusals = c.in_ok-all-2.ensures.refusals on }) a sx
