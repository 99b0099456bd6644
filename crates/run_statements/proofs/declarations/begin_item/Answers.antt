use Rattle.std.proofs.Common.{IfOk, sym, ap, subst, ◌∙◌}
use Rattle.core_meaning.specs.Plain.{plain_item, plain_items}
use Rattle.core_meaning.specs.PlainLaws.{plain_item-Statement}
use Rattle.core_meaning.specs.Program.{PlainItems}
use Rattle.interp_actions.specs.Actions.{items_action}
use Rattle.run_machine.specs.Machines.{Does}
use Rattle.run_statements.proofs.declarations.begin_item.Goals as goal

pub returns-in-Statement : goal.returns-in-Statement
returns-in-Statement c =
    subst (λ (item : PlainItems → PlainItems). IfOk c.statement_item.result (λ flow. Does flow (items_action (item (plain_items c.args.rest.now))) c.args.machine.now c.statement_item.new.machine))
    (sym (ap plain_item c.in-Statement.is ∙ plain_item-Statement c.in-Statement.statement))
    c.statement_item.ensures
