use Rattle.std.proofs.Common.{ℤ, Some, subst, IfOk}
use Rattle.std.specs.Int.{w128}
use Rattle.std.proofs.lemmas.Int.{to_z-of_z}
use Rattle.core_meaning.specs.Values.{number, scalar}
use Rattle.interp_actions.specs.Actions.{value_operand}
use Rattle.interp_actions.specs.Pieces.{PutsGiven}
use Rattle.run_machine.proofs.MachineLemmas.{come_given}
use Rattle.run_calls.proofs.library.put_number.Goals as goal

pub returns : goal.returns
returns c =
    let old = c.args.machine.now.control in
    let new = c.put_scalar.new.control in
    come_given c.put_scalar.result (Some (value_operand (scalar (number c.args.number)))) c.args.machine.now new
    (subst (λ (z : ℤ). IfOk c.put_scalar.result (λ flow. PutsGiven flow (Some (value_operand (scalar (number z)))) old new)) (to_z-of_z w128 c.args.number c.ranges.number) c.put_scalar.ensures)
