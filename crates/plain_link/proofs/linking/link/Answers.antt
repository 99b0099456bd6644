use Rattle.core_meaning.specs.Linking.{Links}
use Rattle.plain_link.specs.PlainUnits.{plain_units}
use Rattle.plain_link.specs.Faults.{NotLinked}
use Rattle.plain_link.proofs.FaultLaws.{passed_on}
use Rattle.plain_link.specs.GlobalsLaws.{links_same, not_linked_same}
use Rattle.plain_link.proofs.linking.link.Goals as goal

pub returns-in_err-refuse_faults : goal.returns-in_err-refuse_faults
returns-in_err-refuse_faults c = λ globals.
    let linked = plain_units globals c.args.units.now c.args.structs.now in
    passed_on c.from_residual.result c.in_err-refuse_faults.field-0.0 (λ done. Links linked) (NotLinked linked)
    c.from_residual.ensures.1
    (not_linked_same 0 globals c.args.units.now c.args.structs.now c.in_err-refuse_faults.field-0.0 c.in_err-refuse_faults.ensures)

pub returns : goal.returns
returns c = λ globals. links_same 0 globals c.args.units.now c.args.structs.now c.in_ok-refuse_faults.ensures
