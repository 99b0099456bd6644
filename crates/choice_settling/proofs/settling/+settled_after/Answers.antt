use Rattle.std.proofs.Common.{sym, subst}
use Rattle.std.proofs.lemmas.Result.{IfOk-weaker}
use Rattle.choice_states.specs.declared.states.State.{Dead, In}
use Rattle.choice_settling.specs.Steps.{stood, SettlesSo}
use Rattle.choice_settling.proofs.Divisions.{divided_so}
use Rattle.choice_settling.proofs.SettlingLemmas.{becomes_in, settles_after_split, so_dead, so_open, so_whole, so_unbegun}
use Rattle.choice_settling.proofs.settling.+settled_after.Goals as goal

pub returns-in-Dead-clause-settled : goal.returns-in-Dead-clause-settled
returns-in-Dead-clause-settled t c =
    subst (λ a. SettlesSo c.args.path.now c.args.here.now c.args.outer c.args.ahead.tokens.now (becomes_in c.args.place a c.args.parts.now.items) (stood Dead c.args.parts.now.items)) (sym c.in-Dead.is)
    (so_dead c.args.path.now c.args.here.now c.args.outer c.args.ahead.tokens.now c.args.place c.args.parts.now.items)

pub returns-in-Open-clause-settled : goal.returns-in-Open-clause-settled
returns-in-Open-clause-settled t c =
    subst (λ a. SettlesSo c.args.path.now c.args.here.now c.args.outer c.args.ahead.tokens.now (becomes_in c.args.place a c.args.parts.now.items)
    (stood (In c.args.place c.in-Open.inner c.in-Open.rest) c.args.parts.now.items)) (sym c.in-Open.is)
    (so_open c.args.path.now c.args.here.now c.args.outer c.args.ahead.tokens.now c.args.place c.in-Open.inner c.in-Open.rest c.args.parts.now.items)

pub returns-in_ok-push-in-Whole-clause-settled : goal.returns-in_ok-push-in-Whole-clause-settled
returns-in_ok-push-in-Whole-clause-settled t c = IfOk-weaker c.foreseen.result _ _ (λ new settles.
    subst (λ a. SettlesSo c.args.path.now c.args.here.now c.args.outer c.args.ahead.tokens.now (becomes_in c.args.place a c.args.parts.now.items) (stood new c.foreseen.new.parts.items)) (sym c.in-Whole.is)
    (so_whole c.args.path.now c.args.here.now c.args.outer c.args.ahead.tokens.now c.args.place c.in-Whole.ended c.back-behind.result c.in-Whole.part
    c.args.parts.now.items c.push.new.parts.items (stood new c.foreseen.new.parts.items) c.back-behind.ensures c.in_ok-push-in-Whole.ensures.pushed settles)) c.foreseen.ensures.settled

pub returns-in-Unbegun-clause-settled : goal.returns-in-Unbegun-clause-settled
returns-in-Unbegun-clause-settled t c = IfOk-weaker c.foreseen-in-Unbegun.result _ _ (λ new settles.
    subst (λ a. SettlesSo c.args.path.now c.args.here.now c.args.outer c.args.ahead.tokens.now (becomes_in c.args.place a c.args.parts.now.items) (stood new c.foreseen-in-Unbegun.new.parts.items)) (sym c.in-Unbegun.is)
    (so_unbegun c.args.path.now c.args.here.now c.args.outer c.args.ahead.tokens.now c.args.place c.in-Unbegun.around c.args.parts.now.items (stood new c.foreseen-in-Unbegun.new.parts.items) settles))
    c.foreseen-in-Unbegun.ensures.settled

pub returns-in_ok-second-in-Split-clause-settled : goal.returns-in_ok-second-in-Split-clause-settled
returns-in_ok-second-in-Split-clause-settled t c = IfOk-weaker c.joined.result _ _ (λ new as_split.
    subst (λ a. SettlesSo c.args.path.now c.args.here.now c.args.outer c.args.ahead.tokens.now (becomes_in c.args.place a c.args.parts.now.items)
    (stood new c.settled_after-in-Split.new.parts.items)) (sym c.in-Split.is)
    (settles_after_split c.args.path.now c.deref.result.now c.deref-in-Split-2.result.now c.args.here.now c.deref-in-Split.result.now c.deref-in-Split-3.result.now
    c.in-Split.f c.args.outer c.args.ahead.tokens.now c.args.place c.in-Split.first c.in-Split.second c.in_ok-first-in-Split.first c.in_ok-second-in-Split.second new
    c.args.parts.now.items c.settled_after.new.parts.items c.settled_after-in-Split.new.parts.items
    (divided_so c.args.path.now c.in-Split.f c.in_ok-first_path-in-Split.first_path.items c.in_ok-second_path-in-Split.second_path.items c.deref.result.now c.deref-in-Split-2.result.now
    c.deref.ensures.value c.deref-in-Split-2.ensures.value c.in_ok-first_path-in-Split.ensures c.in_ok-second_path-in-Split.ensures)
    (divided_so c.args.here.now c.in-Split.f c.in_ok-first_here-in-Split.first_here.items c.in_ok-second_here-in-Split.second_here.items c.deref-in-Split.result.now c.deref-in-Split-3.result.now
    c.deref-in-Split.ensures.value c.deref-in-Split-3.ensures.value c.in_ok-first_here-in-Split.ensures c.in_ok-second_here-in-Split.ensures)
    c.in_ok-first-in-Split.ensures.elsewhere c.in_ok-second-in-Split.ensures.elsewhere
    (subst (λ a. SettlesSo c.deref.result.now c.deref-in-Split.result.now c.args.outer c.args.ahead.tokens.now (becomes_in c.args.place a c.args.parts.now.items)
    (stood c.in_ok-first-in-Split.first c.settled_after.new.parts.items))
    c.into_inner-first.ensures c.in_ok-first-in-Split.ensures.settled)
    (subst (λ a. SettlesSo c.deref-in-Split-2.result.now c.deref-in-Split-3.result.now c.args.outer c.args.ahead.tokens.now (becomes_in c.args.place a c.settled_after.new.parts.items)
    (stood c.in_ok-second-in-Split.second c.settled_after-in-Split.new.parts.items))
    c.into_inner-second.ensures c.in_ok-second-in-Split.ensures.settled)
    as_split)) c.joined.ensures
