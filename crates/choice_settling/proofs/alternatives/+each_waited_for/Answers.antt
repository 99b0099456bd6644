use Rattle.std.proofs.Common.{subst, sym}
use Rattle.choice_states.specs.declared.states.State.{Split}
use Rattle.choice_settling.specs.Leaving.{EachOwes}
use Rattle.choice_settling.proofs.Divisions.{divided_so}
use Rattle.choice_settling.proofs.LeavingLemmas.{owes_split}
use Rattle.choice_settling.proofs.alternatives.+each_waited_for.Goals as goal

pub returns-in_ok-new-in-Split-2-clause-owed : goal.returns-in_ok-new-in-Split-2-clause-owed
returns-in_ok-new-in-Split-2-clause-owed t c =
    subst (λ s. EachOwes c.args.path.now c.args.when.now s (Split c.in-Split.f c.in_ok-new-in-Split.field-0 c.in_ok-new-in-Split-2.field-0)) (sym c.in-Split.is)
    (owes_split c.args.path.now c.deref.result.now c.deref-in-Split.result.now c.in-Split.f c.args.when.now c.in-Split.first c.in-Split.second
    c.in_ok-new-in-Split.field-0 c.in_ok-new-in-Split-2.field-0
    (divided_so c.args.path.now c.in-Split.f c.in_ok-first_path-in-Split.first_path.items c.in_ok-second_path-in-Split.second_path.items c.deref.result.now c.deref-in-Split.result.now
    c.deref.ensures.value c.deref-in-Split.ensures.value c.in_ok-first_path-in-Split.ensures c.in_ok-second_path-in-Split.ensures)
    (subst (λ s. EachOwes c.deref.result.now c.args.when.now s c.in_ok-new-in-Split.field-0.value) c.into_inner.ensures
    (subst (λ s. EachOwes c.deref.result.now c.args.when.now c.into_inner.result s) (sym c.in_ok-new-in-Split.ensures.ok) c.in_ok-first-in-Split.ensures.owed))
    (subst (λ s. EachOwes c.deref-in-Split.result.now c.args.when.now s c.in_ok-new-in-Split-2.field-0.value) c.into_inner-in-Split.ensures
    (subst (λ s. EachOwes c.deref-in-Split.result.now c.args.when.now c.into_inner-in-Split.result s) (sym c.in_ok-new-in-Split-2.ensures.ok) c.in_ok-second-in-Split.ensures.owed)))
