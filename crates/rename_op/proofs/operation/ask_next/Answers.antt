use Rattle.std.proofs.Common.{subst}
use Rattle.rename_op.specs.Outcomes.{plain_precondition, earlier}
use Rattle.rename_op.specs.Asked.{TellsFirst}
use Rattle.rename_op.proofs.operation.ask_next.Goals as goal

pub returns-in-FirstBroken-clause-next : goal.returns-in-FirstBroken-clause-next
returns-in-FirstBroken-clause-next c = λ place is told. subst (TellsFirst c.args.asked.now place (earlier (plain_precondition c.args.precondition))) c.in-FirstBroken.is told

pub returns-in_ok-answered-in-Unbroken-clause-next : goal.returns-in_ok-answered-in-Unbroken-clause-next
returns-in_ok-answered-in-Unbroken-clause-next c = λ place is told.
    c.in_ok-answered-in-Unbroken.ensures.more place is (subst (TellsFirst c.args.asked.now place (earlier (plain_precondition c.args.precondition))) c.in-Unbroken.is told)
