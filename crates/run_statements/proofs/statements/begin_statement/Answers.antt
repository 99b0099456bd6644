use Rattle.std.proofs.Common.{IfOk, sym, ap, subst, ◌∙◌}
use Rattle.core_meaning.specs.Plain.{plain_expression, plain_statement}
use Rattle.core_meaning.specs.PlainLaws.{plain_statement-If, plain_statement-Loop}
use Rattle.core_meaning.specs.Program.{PlainStatement, selection, loop}
use Rattle.interp_actions.specs.Actions.{statement_action}
use Rattle.run_machine.specs.Machines.{Does}
use Rattle.run_statements.proofs.statements.begin_statement.Goals as goal

pub returns-in-If : goal.returns-in-If
returns-in-If c =
    let condition = plain_expression c.in-If.condition in
    subst (λ (s : PlainStatement). IfOk c.begin_if.result (λ flow. Does flow (statement_action s) c.args.machine.now c.begin_if.new.machine))
    (sym
    (ap plain_statement c.in-If.is
    ∙ (plain_statement-If c.in-If.condition c.in-If.first c.in-If.second
    ∙ (ap (λ s. selection condition (plain_statement s) (plain_statement c.in-If.second.value)) (sym c.deref-in-If.ensures)
    ∙ ap (λ s. selection condition (plain_statement c.deref-in-If.result.now) (plain_statement s)) (sym c.deref-in-If-2.ensures)))))
    c.begin_if.ensures

pub returns-in-Loop : goal.returns-in-Loop
returns-in-Loop c =
    let first = c.in-Loop.asks_first in
    let condition = plain_expression c.in-Loop.condition in
    let step = plain_expression c.in-Loop.step in
    subst (λ (s : PlainStatement). IfOk c.begin_loop.result (λ flow. Does flow (statement_action s) c.args.machine.now c.begin_loop.new.machine))
    (sym
    (ap plain_statement c.in-Loop.is
    ∙ (plain_statement-Loop first c.in-Loop.condition c.in-Loop.step c.in-Loop.body
    ∙ ap (λ s. loop first condition step (plain_statement s)) (sym c.deref-in-Loop.ensures))))
    c.begin_loop.ensures
