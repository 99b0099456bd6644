use Rattle.std.proofs.Common.{refl}
use Rattle.cond_formula.specs.ConditionLaws.{condition_of-True}
use Rattle.conditional.specs.Entries.{alternatives}
use Rattle.conditional.proofs.ValueLaws.{placed_on_nothing}
use Rattle.conditional.proofs.values.CondValue.one.Goals as goal

pub returns : goal.returns
returns g c = λ on.
    let placed = c.in_ok-place.ensures on in
    let placed' = rw condition_of-True at placed in
    placed_on_nothing on _ _ (alternatives g.T.Plain.form c.nothing-all.result) _ (c.nothing-all.ensures on) refl placed'
