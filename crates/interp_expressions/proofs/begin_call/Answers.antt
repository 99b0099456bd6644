use Rattle.std.proofs.Common.{[], ◌∷◌, ◌-◌, map, reverse, length, take, drop, refl, sym, ap, ◌∙◌}
use Rattle.core_meaning.specs.Plain.{plain_expression, plain_arguments}
use Rattle.core_meaning.specs.Program.{call}
use Rattle.core_cells.specs.Forms.{plain_value}
use Rattle.interp_actions.specs.Actions as plain
use Rattle.interp_actions.specs.Forms.{plain_actions, plain_operand, plain_frame}
use Rattle.interp_actions.specs.Finish.{finish}
use Rattle.interp_actions.specs.Stacks.{actions_of, operands_of}
use Rattle.interp_actions.specs.StackLaws.{plain_stacks_finish}
use Rattle.interp_expressions.proofs.ArgumentLemmas.{first_argument}
use Rattle.interp_expressions.proofs.begin_call.Goals as goal

pub returns-in_ok-push_two-in-len1-up : goal.returns-in_ok-push_two-in-len1-up
returns-in_ok-push_two-in-len1-up c =
    let es = c.args.arguments.now in
    let f = c.args.function in
    let first = plain_expression c.first-item.result in
    let rest = plain_arguments (take (length es - 1) (drop 1 es)) in
    let old = c.args.control.now in
    let pushed = c.in_ok-then_argument-in-len1-up.ensures in
    record {
      same = λ p types slots n s.
          let ts = plain_actions types slots (actions_of old) in
          let os = map plain_operand (operands_of old) in
          plain_stacks_finish p types slots n (record c.then_argument.new.control { actions = c.push_two.new.stack })
          (plain.expression_action first ∷ plain.use_action ∷ plain.argument_action f rest [] ∷ ts) os s s
          (ap (plain_actions types slots) c.in_ok-push_two-in-len1-up.ensures
          ∙ (ap (λ actions. plain.expression_action first ∷ plain.use_action ∷ actions) (pushed.actions types slots)
          ∙ ap (λ values. plain.expression_action first ∷ plain.use_action ∷ plain.argument_action f rest (reverse (map plain_value values)) ∷ ts) c.new.ensures.items))
          (ap (map plain_operand) pushed.operands)
          refl
          ∙ sym (ap (λ a. finish p (plain.expression_action (call f a) ∷ ts) n (plain_frame types slots) os s) (first_argument es c.first-item.result c.in-len1-up.len_at_least c.first-item.is));
    }
