use Rattle.std.proofs.Common.{false, refl}
use Rattle.core_meaning.specs.Program.{loop}
use Rattle.core_meaning.specs.Plain.{plain_expression, plain_statement}
use Rattle.interp_actions.specs.Actions.{job_action, statement_action}
use Rattle.run_machine.proofs.MachineLemmas.{does_from}
use Rattle.run_statements.proofs.statements.begin_loop.Goals as goal

pub returns-in_ok-begun : goal.returns-in_ok-begun
returns-in_ok-begun c =
    let condition = plain_expression c.args.condition.now in
    let step = plain_expression c.args.step.now in
    let body = plain_statement c.args.body.now in
    rw c.if-asks_first.false
    (does_from c.in_ok-begun.begun (job_action (record { condition = condition; step = step; body = body; bound_behind = c.args.machine.now.frame.bound })) (statement_action (loop false condition step body)) c.args.machine.now c.args.machine.now c.begin_turn.new.machine refl c.in_ok-begun.ensures)
