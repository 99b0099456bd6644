use Rattle.std.proofs.Common.{Bool, false, true, ◌∷◌, not, ◌&&◌, refl, ap, ◌∙◌, subst}
use Rattle.cond_formula.specs.Features.{has}
use Rattle.cond_formula.specs.Conditions.{condition_of, conditions_of, value, all_true}
use Rattle.scope_readings.specs.Walks.{role}
use Rattle.cond_bindings.specs.PlainNames.{plain_names}
use Rattle.cond_scopes.specs.Progress.{name_read, MovesOn}
use Rattle.cond_scopes.proofs.NameReading.{either_read}
use Rattle.cond_scopes.proofs.names_read.read_name.Goals as goal

pub returns-clause-reads : goal.returns-clause-reads
returns-clause-reads g c = λ c' behind admitted.
    let path : Bool = all_true (has c') (conditions_of c.args.path.now) in
    let turned : Bool = value (has c') (condition_of c.args.progress.now.turned) in
    either_read (has c') path turned c.args.name.number behind (λ t. name_read c.args.around.declaration (role c.args.around.kind t) c.args.name.text.now)
    (plain_names c.args.names.now) (plain_names c.read_where.new.names) (plain_names c.read_where-2.new.names) c.args.progress.now c.read_where.new.progress c.read_where-2.new.progress refl
    (λ coming. subst (λ u. MovesOn (has c') (path && u) (c.args.name.number ∷ coming) (name_read c.args.around.declaration (role c.args.around.kind false) c.args.name.text.now) coming
    (plain_names c.args.names.now) c.args.progress.now (plain_names c.read_where.new.names) c.read_where.new.progress)
    (c.in_ok-unturned.ensures.holds (has c') ∙ ap (λ f. not (value (has c') f)) c.in_ok-try_clone.ensures)
    (c.in_ok-read_where.ensures.reads c' coming admitted))
    (subst (λ f. MovesOn (has c') (path && value (has c') f) (c.args.name.number ∷ behind) (name_read c.args.around.declaration (role c.args.around.kind true) c.args.name.text.now) behind
    (plain_names c.read_where.new.names) c.read_where.new.progress (plain_names c.read_where-2.new.names) c.read_where-2.new.progress)
    c.in_ok-turned.ensures
    (c.in_ok-read_where-2.ensures.reads c' behind (ap (value (has c')) c.in_ok-read_where.ensures.kept ∙ admitted)))
