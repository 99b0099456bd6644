use Rattle.std.proofs.Common.{List, ◌∷◌, not, ◌&&◌, ap, ◌∙◌}
use Rattle.std.specs.Prelude.{is_some}
use Rattle.cond_formula.specs.Conditions.{conditions_of, condition_of, all_true}
use Rattle.core_meaning.specs.Entities.{or_else}
use Rattle.scope_readings.specs.Scopes as scopes
use Rattle.cond_bindings.specs.Bindings.{Visible, PlainUse, visible, innermost, first}
use Rattle.cond_bindings.specs.Names.{visible_in, seen}
use Rattle.cond_bindings.specs.PlainNames.{plain_names}
use Rattle.cond_bindings.proofs.StepLemmas.{stepped_as, use_steps}
use Rattle.cond_bindings.proofs.names.Names.used.Goals as goal

pub returns-clause-seen : goal.returns-clause-seen
returns-clause-seen g c =
    λ on coming.
    let old = plain_names c.args.self.now in
    let mid = plain_names c.note_use.new.self in
    let new = plain_names c.use_file.new.self in
    let ds = c.args.self.now.bindings.declarations.items in
    let name = c.args.occurrence.name.now in
    let path = all_true on (conditions_of c.args.occurrence.path.now) in
    let before = c.args.occurrence.number ∷ coming in
    let s = seen on before old in
    let file = c.file_place-file.result in
    let block = c.block_place-block.result in
    let by = or_else (innermost on (visible ds block)) (first on (visible ds file)) in
    let u : PlainUse = record { name = name; when = condition_of c.in_ok-name.name.of_file } in
    let of_file = rw c.as_slice-declarations.ensures.value at c.in_ok-name.ensures.of_file in
    let is =
    of_file on
    ∙ ap (λ (vs : List Visible). path && (not (is_some (innermost on vs)) && is_some (first on (visible ds file)))) c.block_place-block.ensures.visible
    ∙ ap (λ (vs : List Visible). path && (not (is_some (innermost on (visible_in old.blocks name))) && is_some (first on vs))) c.file_place-file.ensures.visible
    in
    stepped_as on path before coming (λ (x : scopes.Scopes). scopes.paired by (scopes.file_used name x)) (scopes.used name) old new
    (ap (λ (vs : List Visible). scopes.paired (or_else (innermost on vs) (first on (visible ds file))) (scopes.file_used name s)) c.block_place-block.ensures.visible
    ∙ ap (λ (vs : List Visible). scopes.paired (or_else (innermost on (visible_in old.blocks name)) (first on vs)) (scopes.file_used name s)) c.file_place-file.ensures.visible)
    (use_steps on path before coming by old mid new u is (c.in_ok-note_use.ensures.seen on coming) (c.in_ok-use_file.ensures.seen on coming))
