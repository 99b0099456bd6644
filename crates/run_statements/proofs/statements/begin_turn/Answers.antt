use Rattle.std.proofs.Common.{◌≡◌, suc, ◌-◌, map, ap, ◌∙◌, arith, refl}
use Rattle.core_meaning.specs.Outcomes.{after}
use Rattle.interp_actions.specs.Forms.{plain_turns, plain_actions, plain_operand, plain_frame}
use Rattle.interp_actions.specs.Stacks.{actions_of, operands_of}
use Rattle.run_machine.specs.Machines.{program_of, state_of}
use Rattle.interp_actions.specs.StackLaws.{stacks_finish, turn_begins}
use Rattle.run_statements.proofs.statements.begin_turn.Goals as goal

pub returns : goal.returns
returns c =
    let one_more : c.args.machine.now.frame.bound ≡ suc (c.args.machine.now.frame.bound - 1) = omega arith in
    let m = c.args.machine.now in
    let p = program_of m in
    ap (after m.output.items)
    (stacks_finish p m.frame.types.now m.frame.slots.items (m.frame.bound - 1) (record m.control { actions = c.push_two.new.stack }) _ (operands_of m.control) (state_of m) c.in_ok-push_two.ensures refl
    ∙ turn_begins p (plain_turns c.args.turns) (plain_actions m.frame.types.now m.frame.slots.items (actions_of m.control)) m.frame.bound (m.frame.bound - 1) (plain_frame m.frame.types.now m.frame.slots.items) (map plain_operand (operands_of m.control)) (state_of m) one_more)
