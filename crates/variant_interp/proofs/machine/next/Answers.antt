use Rattle.std.proofs.Common.{◌∷◌, map, ap, sym, ◌∙◌}
use Rattle.core_meaning.specs.Outcomes.{after}
use Rattle.interp_actions.specs.Forms.{plain_actions, plain_operand, plain_frame}
use Rattle.interp_actions.specs.Finish.{finish}
use Rattle.interp_actions.specs.Stacks.{actions_of, operands_of}
use Rattle.run_machine.specs.declared.machine.Machine.{Machine}
use Rattle.run_machine.specs.Machines.{program_of, state_of}
use Rattle.variant_interp.proofs.AdvanceLemmas.{do_advance, advances_from}
use Rattle.variant_interp.proofs.machine.next.Goals as goal

pub returns-in-Some : goal.returns-in-Some
returns-in-Some c =
    let m = c.args.machine.now in
    let taken = c.take_action.new.control in
    let middle : Machine = record m { control = taken } in
    do_advance c.step.result c.in-Some.action m middle c.step.new.machine c.step.ensures
    (ap (λ os. after m.output.items (finish (program_of m) (plain_actions m.frame.types.now m.frame.slots.items (c.in-Some.action ∷ actions_of taken)) m.frame.bound (plain_frame m.frame.types.now m.frame.slots.items) (map plain_operand os) (state_of m))) c.take_action.ensures.operands
    ∙ ap (λ ts. after m.output.items (finish (program_of m) (plain_actions m.frame.types.now m.frame.slots.items ts) m.frame.bound (plain_frame m.frame.types.now m.frame.slots.items) (map plain_operand (operands_of m.control)) (state_of m))) (sym c.in-Some.ensures.some))

pub returns-in-None : goal.returns-in-None
returns-in-None c =
    let m = c.args.machine.now in
    let taken = c.take_action.new.control in
    let middle : Machine = record m { control = taken } in
    advances_from c.end.result m middle c.end.new.machine c.end.ensures
    (ap (λ os. after m.output.items (finish (program_of m) (plain_actions m.frame.types.now m.frame.slots.items (actions_of taken)) m.frame.bound (plain_frame m.frame.types.now m.frame.slots.items) (map plain_operand os) (state_of m))) c.take_action.ensures.operands
    ∙ ap (λ ts. after m.output.items (finish (program_of m) (plain_actions m.frame.types.now m.frame.slots.items ts) m.frame.bound (plain_frame m.frame.types.now m.frame.slots.items) (map plain_operand (operands_of m.control)) (state_of m))) (c.in-None.ensures.nothing ∙ sym c.in-None.ensures.none))
