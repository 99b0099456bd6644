use Rattle.std.proofs.Common.{false, refl}
use Rattle.cond_formula.specs.ConditionLaws.{condition_of-True}
use Rattle.conditional.specs.Judgements.{fine}
use Rattle.conditional.proofs.outcomes.Outcomes.one.Goals as goal

pub returns : goal.returns
returns g c = λ on.
    let judged = c.in_ok-place.ensures on in
    let judged' = rw condition_of-True at judged in
    judged'.shows false (fine (g.T.Plain.form c.args.what)) (c.nothing-all.ensures on (fine (g.T.Plain.form c.args.what))) (λ t. refl)
