use Rattle.std.proofs.Common.{List, ◌∷◌, ap, ◌∙◌, subst, sym}
use Rattle.cond_formula.specs.Conditions.{conditions_of, condition_of, all_true}
use Rattle.scope_readings.specs.Scopes as scopes
use Rattle.cond_bindings.specs.Bindings.{Visible, PlainIdentifier, declares, declared_by, visible}
use Rattle.cond_bindings.specs.Names.{PlainNames, seen, TellsUndeclared}
use Rattle.cond_bindings.specs.PlainNames.{plain_names}
use Rattle.cond_bindings.specs.Scopes.{plain_scope}
use Rattle.cond_bindings.proofs.StepLemmas.{stepped_as, noted_steps, named_is, told_declared}
use Rattle.cond_bindings.proofs.names.Names.named.Goals as goal

pub returns-clause-seen : goal.returns-clause-seen
returns-clause-seen c =
    λ on coming.
    let old = plain_names c.args.self.now in
    let scope = plain_scope c.args.scope in
    let name = c.args.occurrence.name.now in
    let number = c.args.occurrence.number in
    let seen_before = visible c.args.self.now.bindings.declarations.items c.place_before-earlier.result in
    let i : PlainIdentifier = record { number = number; when = condition_of c.in_ok-when.when; meaning = declares seen_before } in
    let b = all_true on (conditions_of c.args.occurrence.path.now) in
    rw c.in_ok-note.ensures
    (stepped_as on b (number ∷ coming) coming (scopes.paired (declared_by on number (declares seen_before))) (scopes.named scope name) old _
    (ap (λ (vs : List Visible). scopes.paired (declared_by on number (declares vs)) (seen on (number ∷ coming) old)) c.place_before-earlier.ensures.visible ∙ named_is on scope coming number name old)
    (noted_steps on b coming old i old.refused (c.in_ok-when.ensures on)))

pub returns-clause-blocks : goal.returns-clause-blocks
returns-clause-blocks c = ap (λ (n : PlainNames). n.blocks) c.in_ok-note.ensures

pub returns-clause-tells : goal.returns-clause-tells
returns-clause-tells c =
    λ on told.
    subst (TellsUndeclared on) (sym c.in_ok-note.ensures) (told_declared on (plain_names c.args.self.now) c.args.occurrence.number (condition_of c.in_ok-when.when) (visible c.args.self.now.bindings.declarations.items c.place_before-earlier.result) told)
