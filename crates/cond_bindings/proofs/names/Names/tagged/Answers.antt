use Rattle.std.proofs.Common.{false, List, ◌∷◌, ap, ◌∙◌}
use Rattle.std.specs.Prelude.{None}
use Rattle.cond_formula.specs.Features.{has}
use Rattle.cond_formula.specs.Conditions.{conditions_of, all_true}
use Rattle.core_meaning.specs.Entities.{or_else}
use Rattle.scope_readings.specs.Scopes as scopes
use Rattle.cond_bindings.specs.Bindings.{Visible, visible, innermost, first}
use Rattle.cond_bindings.specs.Names.{seen}
use Rattle.cond_bindings.specs.PlainNames.{plain_names}
use Rattle.cond_bindings.proofs.PlaceLemmas.{visible_none}
use Rattle.cond_bindings.proofs.StepLemmas.{stepped_as}
use Rattle.cond_bindings.proofs.names.Names.tagged.Goals as goal

pub returns-then-may_declare-clause-seen : goal.returns-then-may_declare-clause-seen
returns-then-may_declare-clause-seen g c =
    λ on coming. rw c.if-may_declare.true (c.in_ok-declare_tag.ensures.seen on coming)

pub returns-then-may_declare-clause-tells : goal.returns-then-may_declare-clause-tells
returns-then-may_declare-clause-tells g c = λ k admitted. c.in_ok-declare_tag.ensures.tells (has k)

pub returns-clause-seen : goal.returns-clause-seen
returns-clause-seen g c =
    λ on coming.
    let old = plain_names c.args.self.now in
    let ds = c.args.self.now.bindings.declarations.items in
    let name = c.args.occurrence.name.now in
    let before = c.args.occurrence.number ∷ coming in
    let s = seen on before old in
    let tag = c.tag_place-tag.result in
    rw c.if-may_declare.false
    (stepped_as on (all_true on (conditions_of c.args.occurrence.path.now)) before coming
    (scopes.paired (or_else (innermost on (visible ds None)) (first on (visible ds tag)))) (scopes.tagged false name) old (plain_names c.note_use.new.self)
    (ap (λ (vs : List Visible). scopes.paired (or_else (innermost on vs) (first on (visible ds tag))) s) (visible_none ds)
    ∙ ap (λ (vs : List Visible). scopes.paired (first on vs) s) c.tag_place-tag.ensures.visible)
    (c.in_ok-note_use.ensures.seen on coming))
