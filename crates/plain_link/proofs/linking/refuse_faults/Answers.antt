use Rattle.core_meaning.specs.Linking.{Links}
use Rattle.plain_link.specs.PlainUnits.{plain_units}
use Rattle.plain_link.specs.Faults.{NotLinked}
use Rattle.plain_link.proofs.FaultLaws.{passed_on, third_fault, fourth_fault, no_fault}
use Rattle.plain_link.proofs.linking.refuse_faults.Goals as goal

pub returns-in_err-refuse_duplicate : goal.returns-in_err-refuse_duplicate
returns-in_err-refuse_duplicate c =
    let linked = plain_units 0 c.args.units.now c.args.structs.now in
    passed_on c.from_residual-in_err-refuse_duplicate.result c.in_err-refuse_duplicate.field-0.0 (λ done. Links linked) (NotLinked linked)
    c.from_residual-in_err-refuse_duplicate.ensures.1
    (third_fault c.args.units.now c.args.structs.now c.in_err-refuse_duplicate.field-0.0 c.in_ok-refuse_without_main.ensures c.in_ok-refuse_undefined.ensures c.in_err-refuse_duplicate.ensures)

pub returns-in_err-refuse_incompatible : goal.returns-in_err-refuse_incompatible
returns-in_err-refuse_incompatible c =
    let linked = plain_units 0 c.args.units.now c.args.structs.now in
    passed_on c.from_residual-in_err-refuse_incompatible.result c.in_err-refuse_incompatible.field-0.0 (λ done. Links linked) (NotLinked linked)
    c.from_residual-in_err-refuse_incompatible.ensures.1
    (fourth_fault c.args.units.now c.args.structs.now c.in_err-refuse_incompatible.field-0.0 c.in_ok-refuse_without_main.ensures c.in_ok-refuse_undefined.ensures c.in_ok-refuse_duplicate.ensures c.in_err-refuse_incompatible.ensures)

pub returns : goal.returns
returns c = no_fault c.args.units.now c.args.structs.now c.in_ok-refuse_without_main.ensures c.in_ok-refuse_undefined.ensures c.in_ok-refuse_duplicate.ensures c.in_ok-refuse_incompatible.ensures
