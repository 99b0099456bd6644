use Rattle.std.proofs.Common.{◌∷◌, ◌-◌, length, take, drop, map, reverse, sym, ap, ◌∙◌}
use Rattle.core_meaning.specs.Plain.{plain_expression, plain_arguments}
use Rattle.core_cells.specs.Forms.{plain_value}
use Rattle.interp_actions.specs.Actions.{expression_action, use_action, call_action, argument_action, arguments_action}
use Rattle.interp_actions.specs.Forms.{plain_actions, plain_operand}
use Rattle.interp_actions.specs.Pieces.{operands_in}
use Rattle.interp_actions.specs.Stacks.{actions_of}
use Rattle.run_machine.specs.Machines.{outcome_with}
use Rattle.run_machine.proofs.ListLemmas.{first_of, none_left, all_given}
use Rattle.run_machine.proofs.MachineLemmas.{do_from, plain_stacks_come}
use Rattle.run_calls.proofs.calls.next_argument.Goals as goal

pub returns-in-empty : goal.returns-in-empty
returns-in-empty c =
    let m = c.args.machine.now in
    let f = c.args.function in
    let es = c.args.arguments.now in
    let items = c.args.values.items in
    let before = reverse (map plain_value items) in
    do_from c.call.result (call_action f (map plain_value items)) (arguments_action f (plain_arguments es) before) m m c.call.new.machine
    (sym
    (ap (λ xs. outcome_with (arguments_action f (plain_arguments xs) before) m) (none_left es c.in-empty.len_below)
    ∙ ap (λ vs. outcome_with (call_action f vs) m) (all_given items)))
    c.call.ensures

pub returns-in_ok-push_two-in-len1-up : goal.returns-in_ok-push_two-in-len1-up
returns-in_ok-push_two-in-len1-up c =
    let m = c.args.machine.now in
    let f = c.args.function in
    let es = c.args.arguments.now in
    let e = c.argument-item.result in
    let rest = plain_arguments (take (length es - 1) (drop 1 es)) in
    let before = reverse (map plain_value c.args.values.items) in
    let pushed = c.in_ok-then_argument-in-len1-up.ensures in
    plain_stacks_come m (record c.then_argument.new.control { actions = c.push_two.new.stack })
    (expression_action (plain_expression e) ∷ use_action ∷ argument_action f rest before ∷ plain_actions m.frame.types.now m.frame.slots.items (actions_of m.control)) (operands_in m.control) _
    (ap (plain_actions m.frame.types.now m.frame.slots.items) c.in_ok-push_two-in-len1-up.ensures
    ∙ ap (λ ts. expression_action (plain_expression e) ∷ use_action ∷ ts) (pushed.actions m.frame.types.now m.frame.slots.items))
    (ap (map plain_operand) pushed.operands)
    (sym (ap (λ xs. outcome_with (arguments_action f (plain_arguments xs) before) m) (first_of es e c.in-len1-up.len_at_least c.argument-item.is)))
