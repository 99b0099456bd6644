use Rattle.std.proofs.Common.{[], ◌∷◌, reverse, refl, ap}
use Rattle.core_meaning.specs.Outcomes.{after}
use Rattle.core_meaning.specs.Plain.{plain_expression}
use Rattle.core_meaning.specs.Program.{evaluate}
use Rattle.interp_actions.specs.Forms.{plain_actions}
use Rattle.interp_actions.specs.Actions.{statement_action, expression_action, end_full_action, falls_action}
use Rattle.run_machine.specs.Machines.{program_of, state_of}
use Rattle.interp_actions.specs.StackLaws.{full_begins}
use Rattle.run_statements.proofs.statements.begin_evaluate.Goals as goal

pub returns : goal.returns
returns c =
    let m = c.args.machine.now in
    let p = program_of m in
    ap (after m.output.items)
    (full_begins p m.frame.types.now m.frame.slots.items m.frame.bound m.control (record m.control { actions = c.push.new.stack }) c.begin_full.new.control (record c.begin_full.new.control { actions = c.push-2.new.stack })
    (state_of m) (record (state_of m) { temporaries = reverse c.begin_full.new.temporaries.items }) (record (state_of m) { temporaries = [] })
    (statement_action (evaluate (plain_expression c.args.expression.now))) (expression_action (plain_expression c.args.expression.now) ∷ []) falls_action (end_full_action (reverse m.temporaries.items))
    (ap (plain_actions m.frame.types.now m.frame.slots.items) c.in_ok-push-2.ensures) refl
    c.in_ok-begin_full.ensures.full
    (ap (plain_actions m.frame.types.now m.frame.slots.items) c.in_ok-push.ensures) refl
    (ap (λ temporaries. record (state_of m) { temporaries = reverse temporaries }) c.in_ok-begin_full.ensures.none)
    (λ ts os. refl))
