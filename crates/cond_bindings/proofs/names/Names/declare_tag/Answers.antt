use Rattle.std.proofs.Common.{◌≡◌, ℕ, List, ap, ◌∙◌, subst, sym}
use Rattle.cond_formula.specs.Conditions.{Condition, conditions_of, condition_of, value, all_true}
use Rattle.cond_bindings.specs.Bindings.{Visible, declares, visible}
use Rattle.cond_bindings.specs.Names.{PlainNames, TellsUndeclared}
use Rattle.cond_bindings.specs.NameSteps.{noted, with_tag}
use Rattle.cond_bindings.specs.PlainNames.{plain_names}
use Rattle.cond_bindings.proofs.StepLemmas.{tag_steps, told_declared}
use Rattle.cond_bindings.proofs.names.Names.declare_tag.Goals as goal

-- the names after the identifier and the new declaration
become : (old between new : PlainNames) (name : List ℕ) (v : Visible) (when : Condition) (vs : List Visible) → between ≡ noted old (record { number = v.number; when = when; meaning = declares vs }) → vs ≡ old.tags name → new ≡ with_tag between name v → new ≡ with_tag (noted old (record { number = v.number; when = when; meaning = declares (old.tags name) })) name v
become old between new name v when vs first same second =
    second ∙ ap (λ (n : PlainNames). with_tag n name v) (first ∙ ap (λ (xs : List Visible). noted old (record { number = v.number; when = when; meaning = declares xs })) same)

pub returns-clause-seen : goal.returns-clause-seen
returns-clause-seen c =
    λ on coming.
    let old = plain_names c.args.self.now in
    let name = c.args.occurrence.name.now in
    let v : Visible = record { when = condition_of c.in_ok-when.when; number = c.args.occurrence.number } in
    let copy = condition_of c.in_ok-copy.copy in
    let earlier = visible c.args.self.now.bindings.declarations.items c.tag_place-earlier.result in
    rw (become old (plain_names c.note.new.self) (plain_names c.show_tag.new.self) name v copy earlier c.in_ok-note.ensures c.tag_place-earlier.ensures.visible c.in_ok-show_tag.ensures)
    (tag_steps on name v (all_true on (conditions_of c.args.occurrence.path.now)) coming old copy (ap (value on) c.in_ok-copy.ensures ∙ c.in_ok-when.ensures on) (c.in_ok-when.ensures on))

pub returns-clause-blocks : goal.returns-clause-blocks
returns-clause-blocks c = ap (λ (n : PlainNames). n.blocks) c.in_ok-show_tag.ensures ∙ ap (λ (n : PlainNames). n.blocks) c.in_ok-note.ensures

pub returns-clause-tells : goal.returns-clause-tells
returns-clause-tells c =
    λ on told.
    let old = plain_names c.args.self.now in
    let name = c.args.occurrence.name.now in
    let v : Visible = record { when = condition_of c.in_ok-when.when; number = c.args.occurrence.number } in
    let copy = condition_of c.in_ok-copy.copy in
    let earlier = visible c.args.self.now.bindings.declarations.items c.tag_place-earlier.result in
    subst (TellsUndeclared on) (sym (become old (plain_names c.note.new.self) (plain_names c.show_tag.new.self) name v copy earlier c.in_ok-note.ensures c.tag_place-earlier.ensures.visible c.in_ok-show_tag.ensures))
    (told_declared on old v.number copy (old.tags name) told)
