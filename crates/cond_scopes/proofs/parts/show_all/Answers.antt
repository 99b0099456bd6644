use Rattle.std.proofs.Common.{◌≡◌, ◌-◌, ◌+◌, ◌<◌, length, reverse, take, arith, refl, ap, ◌∙◌, subst}
use Rattle.std.proofs.lemmas.List.{take_all}
use Rattle.cond_formula.specs.Conditions.{conditions_of, all_true}
use Rattle.scope_readings.specs.Scopes.{shown}
use Rattle.cond_bindings.specs.Names.{seen, Steps}
use Rattle.cond_bindings.specs.PlainNames.{plain_names}
use Rattle.cond_bindings.specs.Scopes.{plain_scope}
use Rattle.cond_scopes.specs.Progress.{showing, hidden_at}
use Rattle.cond_scopes.proofs.Growing.{stays, grows_on}
use Rattle.cond_scopes.proofs.Shown.{shown_one_more}
use Rattle.cond_scopes.proofs.parts.show_all.Goals as goal

pub loop-left-init : goal.loop-left-init
loop-left-init c = record {
  within = omega arith;
  seen = λ on coming. ap (λ items. showing (plain_scope c.args.scope) (hidden_at on (reverse items)) (seen on coming (plain_names c.args.names.now)))
      (take_all (length c.args.pending.now) c.args.pending.now (omega arith));
  grows = stays (plain_names c.args.names.now) (plain_names c.args.names.now) refl;
  tells = λ on told. told;
}

pub loop-left-preserved : goal.loop-left-preserved
loop-left-preserved c =
    let items = c.args.pending.now in
    let left = c.loop-left.left - 1 in
    let latest = c.index-pending-left.result in
    let next : left + 1 ≡ c.loop-left.left = omega (arith, c.loop-left-test.true) in
    let within : left < length items = omega (arith, c.loop-left-test.true, c.loop-left.invariant.within) in
    record {
      within = omega (arith, c.loop-left.invariant.within);
      seen = λ on coming.
          shown_one_more on coming (plain_scope c.args.scope) (plain_names c.loop-left.names) (plain_names c.shown.new.self) items left latest within c.index-pending-left.is
          (subst (λ path. Steps on (all_true on (conditions_of path)) coming (shown (plain_scope c.args.scope) latest.name.now latest.number) coming (plain_names c.loop-left.names) (plain_names c.shown.new.self))
          c.deref.ensures.value (c.in_ok-shown.ensures.seen on coming))
          ∙ (ap (λ k. showing (plain_scope c.args.scope) (hidden_at on (reverse (take k items))) (seen on coming (plain_names c.loop-left.names))) next
          ∙ c.loop-left.invariant.seen on coming);
      grows = grows_on (plain_names c.args.names.now) (plain_names c.loop-left.names) (plain_names c.shown.new.self) c.loop-left.invariant.grows c.in_ok-shown.ensures.grows;
      tells = λ on told. c.in_ok-shown.ensures.tells on (c.loop-left.invariant.tells on told);
    }

pub returns-clause-seen : goal.returns-clause-seen
returns-clause-seen c = λ on coming.
    let none : 0 ≡ c.loop-left.left = omega (arith, c.loop-left-test.false) in
    ap (λ k. showing (plain_scope c.args.scope) (hidden_at on (reverse (take k c.args.pending.now))) (seen on coming (plain_names c.loop-left.names))) none
    ∙ c.loop-left.invariant.seen on coming
