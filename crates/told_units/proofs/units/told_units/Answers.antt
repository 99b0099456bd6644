use Rattle.std.proofs.Common.{List, ap, subst, ◌∙◌}
use Rattle.cond_formula.specs.Features.{has}
use Rattle.cond_formula.specs.Conditions.{value}
use Rattle.core_meaning.specs.Linking.{no_numbers}
use Rattle.cond_bindings.specs.declared.unit_bindings.UnitBindings.{UnitBindings}
use Rattle.link_faults.specs.declared.left.LeftUnit.{LeftUnit}
use Rattle.told_units.specs.Told.{AreToldFrom}
use Rattle.told_units.proofs.Reading.{units_told}
use Rattle.told_units.proofs.units.told_units.Goals as goal

pub returns-clause-told : goal.returns-clause-told
returns-clause-told g c = λ n linked js admitted scoped written judged telling here linkable.
    let units = c.args.units.now in
    let forests = c.args.forests.now in
    let b = c.args.b.now in
    let t = c.args.t.now in
    let noted = c.in_ok-noted.noted in
    let all = c.in_ok-all.all in
    units_told (has n) c.bindings_need_no_numbers.ensures c.leaves_are_spelled.ensures c.occurrences_are_read.ensures units forests b t noted all.items linked js scoped written judged telling here linkable
    (λ first ks e. c.in_ok-noted.ensures.noted n 0 no_numbers first ks admitted written e)
    (subst (λ (l : List LeftUnit). AreToldFrom (has n) b.units.items l noted.tables noted.units.items 0 units forests all.items) c.deref-2.ensures.value
    (subst (λ (bs : List UnitBindings). AreToldFrom (has n) bs c.deref-2.result.now noted.tables noted.units.items 0 units forests all.items) c.deref.ensures.value
    (c.in_ok-all.ensures.told n (ap (value (has n)) c.in_ok-noted.ensures.kept ∙ admitted))))
