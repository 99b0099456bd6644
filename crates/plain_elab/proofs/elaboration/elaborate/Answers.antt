use Rattle.std.proofs.Common.{List, map, subst}
use Rattle.c_tree.specs.Trees.{plain_tree}
use Rattle.core_meaning.specs.declared.program.CoreProgram.{CoreProgram}
use Rattle.core_meaning.specs.Linking.{IsElaborated}
use Rattle.core_meaning.specs.Plain.{plain_program}
use Rattle.plain_scope.specs.declared.entities.Struct.{Struct}
use Rattle.plain_link.specs.declared.left.Left.{Left}
use Rattle.plain_link.specs.PlainUnits.{plain_units}
use Rattle.plain_link.specs.Faults.{NotLinked}
use Rattle.plain_elab.specs.Elaborated.{NotElaborated}
use Rattle.plain_elab.proofs.JudgingLaws.{passed_on}
use Rattle.plain_elab.proofs.WholeLaws.{not_elaborated}
use Rattle.plain_elab.proofs.elaboration.elaborate.Goals as goal

pub returns-in_err-link : goal.returns-in_err-link
returns-in_err-link c =
    let trees = map plain_tree c.args.units.now in
    let whole = c.in_ok-whole.whole in
    let e = c.in_err-link.field-0.0 in
    let whole_is = rw c.in_ok-whole.was at c.judged_whole.ensures in
    let judged = whole_is.0 in
    let fault = rw c.in_err-link.was at (c.link.ensures whole.objects) in
    let at_units = subst (λ (units : List Left). NotLinked (plain_units whole.objects units c.as_slice-2.result.now) e) c.as_slice.ensures.value fault in
    let at_structs = subst (λ (structs : List Struct). NotLinked (plain_units whole.objects whole.units.items structs) e) c.as_slice-2.ensures.value at_units in
    passed_on c.from_residual-in_err-link.result e
    (λ (p : CoreProgram). IsElaborated trees (plain_program p)) (NotElaborated trees)
    c.from_residual-in_err-link.ensures.1
    (not_elaborated trees (plain_units whole.objects whole.units.items whole.structs.items) e judged at_structs)
