use Rattle.std.proofs.Common.{refl, sym, subst}
use Rattle.core_meaning.specs.Meaning.{returns}
use Rattle.core_cells.specs.Forms.{plain_value}
use Rattle.interp_actions.specs.declared.actions.Ending.TheVariants as ending
use Rattle.interp_actions.specs.declared.actions.Flow.{Flow}
use Rattle.interp_actions.specs.declared.actions.Operand.TheVariants as operand
use Rattle.interp_actions.specs.Stacks.{operands_of}
use Rattle.run_machine.specs.declared.machine.Machine.{Machine}
use Rattle.run_machine.specs.Machines.{Advances}
use Rattle.variant_interp.proofs.AdvanceLemmas.{ended_answer, ended_undefined, returned_advances}
use Rattle.variant_interp.proofs.machine.end.Goals as goal

pub returns-in-None : goal.returns-in-None
returns-in-None c = ended_undefined c.args.machine.now c.requires c.in-None.ensures.none

pub returns-in-Some-Returns : goal.returns-in-Some-Returns
returns-in-Some-Returns c =
    let m = c.args.machine.now in
    let taken = c.take_ending.new.self in
    let now : Machine = record m { control = taken } in
    let v = c.in-Some-Returns.value in
    let there = rw c.in-Some-Returns.field-0-is at c.in-Some-Returns.ensures.some in
    subst (λ (flow : Flow). Advances flow m now) (sym c.status_of.ensures)
    (returned_advances (plain_value v) m now
    (ended_answer m (returns (plain_value v)) (operands_of taken) (operand.Ending (ending.Returns v)) c.requires there refl))
