use Rattle.std.proofs.Common.{Some, sym, subst, ◌∙◌}
use Rattle.std.proofs.lemmas.Result.{IfOk-weaker}
use Rattle.choice_states.specs.declared.states.State.{In}
use Rattle.choice_settling.specs.Steps.{stood, SettlesSo}
use Rattle.choice_settling.proofs.Divisions.{divided_so}
use Rattle.choice_settling.proofs.SettlingLemmas.{settles_split, so_from_at, so_in, so_in_part}
use Rattle.choice_settling.proofs.settling.+settled.Goals as goal

pub returns-in_ok-second-in-Split-clause-settled : goal.returns-in_ok-second-in-Split-clause-settled
returns-in_ok-second-in-Split-clause-settled t c = IfOk-weaker c.joined.result _ _ (λ new as_split.
    subst (λ s. SettlesSo c.args.path.now c.args.here.now c.args.outer c.args.ahead.tokens.now (stood s c.args.parts.now.items) (stood new c.settled-in-Split.new.parts.items)) (sym c.in-Split.is)
    (settles_split c.args.path.now c.deref.result.now c.deref-in-Split-2.result.now c.args.here.now c.deref-in-Split.result.now c.deref-in-Split-3.result.now
    c.in-Split.f c.args.outer c.args.ahead.tokens.now c.in-Split.first c.in-Split.second c.in_ok-first-in-Split.first c.in_ok-second-in-Split.second new
    c.args.parts.now.items c.settled.new.parts.items c.settled-in-Split.new.parts.items
    (divided_so c.args.path.now c.in-Split.f c.in_ok-first_path-in-Split.first_path.items c.in_ok-second_path-in-Split.second_path.items c.deref.result.now c.deref-in-Split-2.result.now
    c.deref.ensures.value c.deref-in-Split-2.ensures.value c.in_ok-first_path-in-Split.ensures c.in_ok-second_path-in-Split.ensures)
    (divided_so c.args.here.now c.in-Split.f c.in_ok-first_here-in-Split.first_here.items c.in_ok-second_here-in-Split.second_here.items c.deref-in-Split.result.now c.deref-in-Split-3.result.now
    c.deref-in-Split.ensures.value c.deref-in-Split-3.ensures.value c.in_ok-first_here-in-Split.ensures c.in_ok-second_here-in-Split.ensures)
    c.in_ok-first-in-Split.ensures.elsewhere c.in_ok-second-in-Split.ensures.elsewhere
    (subst (λ s. SettlesSo c.deref.result.now c.deref-in-Split.result.now c.args.outer c.args.ahead.tokens.now (stood s c.args.parts.now.items) (stood c.in_ok-first-in-Split.first c.settled.new.parts.items))
    c.into_inner-first.ensures c.in_ok-first-in-Split.ensures.settled)
    (subst (λ s. SettlesSo c.deref-in-Split-2.result.now c.deref-in-Split-3.result.now c.args.outer c.args.ahead.tokens.now (stood s c.settled.new.parts.items)
    (stood c.in_ok-second-in-Split.second c.settled-in-Split.new.parts.items))
    c.into_inner-second.ensures c.in_ok-second-in-Split.ensures.settled)
    as_split)) c.joined.ensures

pub returns-then-is_inside-clause-settled : goal.returns-then-is_inside-clause-settled
returns-then-is_inside-clause-settled t c =
    subst (λ s. SettlesSo c.args.path.now c.args.here.now c.args.outer c.args.ahead.tokens.now (stood s c.args.parts.now.items)
    (stood (In c.in-In.place c.settled-in-In.new.parts c.in_ok-new-in-In.field-0) c.args.parts.now.items)) (sym c.in-In.is)
    (so_in_part c.args.path.now c.args.here.now c.args.outer c.args.ahead.tokens.now c.deref-in-In.result.now c.in-In.place c.in-In.inner c.settled-in-In.new.parts
    c.in-In.rest c.in_ok-new-in-In.field-0 c.args.parts.now.items (c.deref-in-In.ensures.value ∙ c.new-nowhere.ensures.items)
    (subst (λ s. SettlesSo c.args.path.now c.deref-in-In.result.now (Some c.in-In.place) c.args.ahead.tokens.now (stood c.in-In.rest.value c.in-In.inner.items) (stood s c.settled-in-In.new.parts.items))
    (sym c.in_ok-new-in-In.ensures.ok)
    (subst (λ s. SettlesSo c.args.path.now c.deref-in-In.result.now (Some c.in-In.place) c.args.ahead.tokens.now (stood s c.in-In.inner.items) (stood c.in_ok-rest-in-In.rest c.settled-in-In.new.parts.items))
    c.into_inner-rest.ensures c.in_ok-rest-in-In.ensures.settled)))

pub returns-in_ok-after-in-In-clause-settled : goal.returns-in_ok-after-in-In-clause-settled
returns-in_ok-after-in-In-clause-settled t c = IfOk-weaker c.settled_after.result _ _ (λ new settles.
    subst (λ s. SettlesSo c.args.path.now c.args.here.now c.args.outer c.args.ahead.tokens.now (stood s c.args.parts.now.items) (stood new c.settled_after.new.parts.items)) (sym c.in-In.is)
    (so_in c.args.path.now c.args.here.now c.args.outer c.args.ahead.tokens.now c.args.ahead.when.now c.deref-in-In.result.now c.in-In.place c.in-In.inner c.in-In.rest
    c.in_ok-rest-in-In.rest c.settled-in-In.new.parts.items c.in_ok-after-in-In.after c.args.parts.now.items (stood new c.settled_after.new.parts.items)
    (c.deref-in-In.ensures.value ∙ c.new-nowhere.ensures.items)
    (subst (λ s. SettlesSo c.args.path.now c.deref-in-In.result.now (Some c.in-In.place) c.args.ahead.tokens.now (stood s c.in-In.inner.items) (stood c.in_ok-rest-in-In.rest c.settled-in-In.new.parts.items))
    c.into_inner-rest.ensures c.in_ok-rest-in-In.ensures.settled)
    c.in_ok-after-in-In.ensures settles)) c.settled_after.ensures.settled

pub returns-in-At-clause-settled : goal.returns-in-At-clause-settled
returns-in-At-clause-settled t c = IfOk-weaker c.settled_at.result _ _ (λ new settles.
    subst (λ s. SettlesSo c.args.path.now c.args.here.now c.args.outer c.args.ahead.tokens.now (stood s c.args.parts.now.items) (stood new c.settled_at.new.parts.items)) (sym c.in-At.is)
    (so_from_at c.args.path.now c.args.here.now c.args.outer c.args.ahead.tokens.now c.in-At.place c.in-At.new c.args.parts.now.items (stood new c.settled_at.new.parts.items) settles))
    c.settled_at.ensures.settled
