use Rattle.std.proofs.Common.{IsTrue, subst, sym, ap, ◌∙◌}
use Rattle.std.proofs.lemmas.Result.{IfOk-weaker}
use Rattle.cond_formula.specs.Conditions.{condition_of, value}
use Rattle.choice_states.specs.Seen.{seen_in}
use Rattle.choice_states.specs.States.{Standing, standing, becoming, owes, Finishes}
use Rattle.choice_states.specs.StateLaws.{standing-Split, owes-Split}
use Rattle.choice_states.proofs.Finishing.{finishes_split}
use Rattle.choice_states.proofs.closings.+finished.Goals as goal

pub returns-in_ok-second-in-Split : goal.returns-in_ok-second-in-Split
returns-in_ok-second-in-Split t c =
    IfOk-weaker c.split_after.result _ _ (λ after h on fits.
    finishes_split (value on (condition_of c.in-Split.f))
    (standing c.args.state on (seen_in on c.args.parts.items)) (standing c.in-Split.first.value on (seen_in on c.args.parts.items)) (standing c.in-Split.second.value on (seen_in on c.args.parts.items))
    (owes c.args.state on) (owes c.in-Split.first.value on) (owes c.in-Split.second.value on)
    (becoming after on) (becoming c.in_ok-first-in-Split.first on) (becoming c.in_ok-second-in-Split.second on)
    (ap (λ s. standing s on (seen_in on c.args.parts.items)) c.in-Split.is ∙ standing-Split c.in-Split.f c.in-Split.first c.in-Split.second on (seen_in on c.args.parts.items))
    (ap (λ s. owes s on) c.in-Split.is ∙ owes-Split c.in-Split.f c.in-Split.first c.in-Split.second on)
    (h on)
    (λ holds.
    subst (λ (s : Standing). IsTrue s.fits → Finishes s (owes c.in-Split.first.value on) (becoming c.in_ok-first-in-Split.first on))
    (ap (λ s. standing s on (seen_in on c.in_ok-ours-in-Split.ours.items)) (sym c.deref-in-Split-2.ensures) ∙ c.in_ok-ours-in-Split.ensures.first on holds ∙ ap (λ s. standing s on (seen_in on c.args.parts.items)) c.deref-in-Split-2.ensures)
    (subst (λ s. IsTrue (standing s on (seen_in on c.in_ok-ours-in-Split.ours.items)).fits → Finishes (standing s on (seen_in on c.in_ok-ours-in-Split.ours.items)) (owes s on) (becoming c.in_ok-first-in-Split.first on))
    c.into_inner.ensures (c.in_ok-first-in-Split.ensures on)))
    (λ fails.
    subst (λ (s : Standing). IsTrue s.fits → Finishes s (owes c.in-Split.second.value on) (becoming c.in_ok-second-in-Split.second on))
    (ap (λ s. standing s on (seen_in on c.in_ok-ours-in-Split.theirs.items)) (sym c.deref-in-Split-3.ensures) ∙ c.in_ok-ours-in-Split.ensures.second on fails ∙ ap (λ s. standing s on (seen_in on c.args.parts.items)) c.deref-in-Split-3.ensures)
    (subst (λ s. IsTrue (standing s on (seen_in on c.in_ok-ours-in-Split.theirs.items)).fits → Finishes (standing s on (seen_in on c.in_ok-ours-in-Split.theirs.items)) (owes s on) (becoming c.in_ok-second-in-Split.second on))
    c.into_inner-in-Split.ensures (c.in_ok-second-in-Split.ensures on)))
    fits) c.split_after.ensures
