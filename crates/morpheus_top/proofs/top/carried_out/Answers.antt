use Rattle.std.proofs.Common.{map, sym, subst}
use Rattle.std.specs.String.{string_bytes}
use Rattle.command_promises.specs.Sayings.{CameTo}
use Rattle.command_promises.specs.Commands.{CourseFor}
use Rattle.morpheus_top.specs.declared.commands.Which.{Which}
use Rattle.morpheus_top.specs.Commands.{commands}
use Rattle.morpheus_top.proofs.top.carried_out.Goals as goal

pub returns-in-Quick-clause-came : goal.returns-in-Quick-clause-came
returns-in-Quick-clause-came g c =
    subst (λ (which : Which). CameTo (CourseFor (commands which) (map string_bytes c.args.further.now)) (g.S.Store.state c.args.store.now) c.quick.result) (sym c.in-Quick.is) c.quick.ensures.came

pub returns-in-Admit-clause-came : goal.returns-in-Admit-clause-came
returns-in-Admit-clause-came g c =
    subst (λ (which : Which). CameTo (CourseFor (commands which) (map string_bytes c.args.further.now)) (g.S.Store.state c.args.store.now) c.admit.result) (sym c.in-Admit.is) c.admit.ensures.came

pub returns-in-Tokens-clause-came : goal.returns-in-Tokens-clause-came
returns-in-Tokens-clause-came g c =
    subst (λ (which : Which). CameTo (CourseFor (commands which) (map string_bytes c.args.further.now)) (g.S.Store.state c.args.store.now) c.tokens.result) (sym c.in-Tokens.is) c.tokens.ensures.came

pub returns-in-Run-clause-came : goal.returns-in-Run-clause-came
returns-in-Run-clause-came g c =
    subst (λ (which : Which). CameTo (CourseFor (commands which) (map string_bytes c.args.further.now)) (g.S.Store.state c.args.store.now) c.run.result) (sym c.in-Run.is) c.run.ensures.came

pub returns-in-Check-clause-came : goal.returns-in-Check-clause-came
returns-in-Check-clause-came g c =
    subst (λ (which : Which). CameTo (CourseFor (commands which) (map string_bytes c.args.further.now)) (g.S.Store.state c.args.store.now) c.check.result) (sym c.in-Check.is) c.check.ensures.came

pub returns-in-Rename-clause-came : goal.returns-in-Rename-clause-came
returns-in-Rename-clause-came g c =
    subst (λ (which : Which). CameTo (CourseFor (commands which) (map string_bytes c.args.further.now)) (g.S.Store.state c.args.store.now) c.rename.result) (sym c.in-Rename.is) c.rename.ensures.came
