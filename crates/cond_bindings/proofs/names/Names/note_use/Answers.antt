use Rattle.std.proofs.Common.{Bool, sym, ap, ◌∙◌, subst}
use Rattle.std.specs.Prelude.{◌&&◌, ◌||◌, is_none}
use Rattle.cond_formula.specs.declared.formulas.Formula.{Formula}
use Rattle.cond_formula.specs.Features.{has}
use Rattle.cond_formula.specs.Conditions.{conditions_of, condition_of, value, all_true}
use Rattle.cond_bindings.specs.Bindings.{PlainIdentifier, use_of, visible, declared_by}
use Rattle.cond_bindings.specs.Names.{PlainNames, TellsUndeclared}
use Rattle.cond_bindings.specs.PlainNames.{plain_names}
use Rattle.cond_bindings.proofs.StepLemmas.{noted_steps, told_more}
use Rattle.cond_bindings.proofs.names.Names.note_use.Goals as goal

pub returns-clause-seen : goal.returns-clause-seen
returns-clause-seen g c =
    λ on coming.
    let ds = c.args.self.now.bindings.declarations.items in
    let i : PlainIdentifier = record { number = c.args.occurrence.number; when = condition_of c.in_ok-when.when; meaning = use_of (visible ds c.args.block) (visible ds c.args.file) } in
    rw c.in_ok-note.ensures (noted_steps on (all_true on (conditions_of c.args.occurrence.path.now)) coming (plain_names c.args.self.now) i (condition_of c.in_ok-self.field-0) (c.in_ok-when.ensures on))

pub returns-clause-blocks : goal.returns-clause-blocks
returns-clause-blocks g c = ap (λ (n : PlainNames). n.blocks) c.in_ok-note.ensures

pub returns-clause-tells : goal.returns-clause-tells
returns-clause-tells g c =
    λ k admitted told.
    let on = has k in
    let old = c.args.self.now in
    let ds = old.bindings.declarations.items in
    let i : PlainIdentifier = record { number = c.args.occurrence.number; when = condition_of c.in_ok-when.when; meaning = use_of (visible ds c.args.block) (visible ds c.args.file) } in
    let by = declared_by on i.number i.meaning in
    let is =
    c.in_ok-self.ensures.refused k admitted
    ∙ ap (λ (f : Formula). value on (condition_of f) || value on (condition_of c.args.undeclared)) c.replace-before.ensures.value
    ∙ ap (λ (b : Bool). value on (condition_of old.refused) || b) (c.requires.undeclared on ∙ ap (λ (b : Bool). b && is_none by) (sym (c.in_ok-when.ensures on)))
    in
    subst (TellsUndeclared on) (sym c.in_ok-note.ensures) (told_more on (plain_names old) i (condition_of c.in_ok-self.field-0) told is)
