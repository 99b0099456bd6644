use Rattle.std.proofs.Common.{◌∷◌, map, ap, sym, ◌∙◌}
use Rattle.core_meaning.specs.Outcomes.{after}
use Rattle.interp_actions.specs.Forms.{plain_actions, plain_turns, plain_operand, plain_frame}
use Rattle.interp_actions.specs.Finish.{finish}
use Rattle.interp_actions.specs.Stacks.{actions_of, operands_of}
use Rattle.interp_actions.specs.Actions.{asking_action, asks_action}
use Rattle.run_machine.specs.Machines.{program_of, state_of}
use Rattle.interp_actions.specs.StackLaws.{fails_behind}
use Rattle.run_machine.proofs.MachineLemmas.{do_from}
use Rattle.run_statements.proofs.statements.asks_again.Goals as goal

pub returns-in-None : goal.returns-in-None
returns-in-None c = fails_behind _ _ (c.in-None.ensures.none _ _)

pub returns-in-Some : goal.returns-in-Some
returns-in-Some c =
    let m = c.args.machine.now in
    let p = program_of m in
    let l = plain_turns c.args.turns in
    do_from c.asks_past.result (asking_action l) (asks_action l) m (record m { control = c.take_value.new.self }) c.asks_past.new.machine
    (ap (after m.output.items)
    (ap (λ ts. finish p (asking_action l ∷ plain_actions m.frame.types.now m.frame.slots.items ts) m.frame.bound (plain_frame m.frame.types.now m.frame.slots.items) (map plain_operand (operands_of c.take_value.new.self)) (state_of m)) c.take_value.ensures.actions
    ∙ sym (ap (λ os. finish p (asks_action l ∷ plain_actions m.frame.types.now m.frame.slots.items (actions_of m.control)) m.frame.bound (plain_frame m.frame.types.now m.frame.slots.items) (map plain_operand os) (state_of m)) c.in-Some.ensures.some)))
    c.asks_past.ensures
