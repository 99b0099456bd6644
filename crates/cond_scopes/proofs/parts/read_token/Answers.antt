use Rattle.std.proofs.Common.{Bool, ◌||◌, refl, sym, ap, ap₂, ◌∙◌}
use Rattle.cond_formula.specs.Features.{has}
use Rattle.cond_formula.specs.Conditions.{condition_of, conditions_of, value, all_true}
use Rattle.c_text.specs.Token.{plain_token}
use Rattle.c_tree.specs.declared.terminals.Terminal.TheVariants.{Name}
use Rattle.c_tree.specs.Terminals.{same}
use Rattle.scope_readings.specs.Walks.{turns}
use Rattle.cond_bindings.specs.PlainNames.{plain_names}
use Rattle.cond_scopes.specs.Progress.{numbers}
use Rattle.cond_scopes.proofs.NameReading.{name_token, other_token, turned_by, unturned_by}
use Rattle.cond_scopes.proofs.parts.read_token.Goals as goal

pub returns-then-is-clause-reads : goal.returns-then-is-clause-reads
returns-then-is-clause-reads g c = λ c' behind admitted.
    name_token (has c') c.args.around.declaration c.args.around.kind (plain_token c.args.token.now) (all_true (has c') (conditions_of c.args.path.now)) c.args.number (numbers behind)
    (plain_names c.args.names.now) (plain_names c.read_name.new.names) c.args.progress.now c.read_name.new.progress
    c.deref.result.now c.deref.ensures.value
    (ap (same Name) (sym c.terminal.ensures) ∙ (sym c.is.ensures ∙ c.if-is.true))
    (c.in_ok-read_name.ensures.reads c' (numbers behind) admitted)

pub returns-in_ok-progress-clause-reads : goal.returns-in_ok-progress-clause-reads
returns-in_ok-progress-clause-reads g c = λ c' behind admitted.
    other_token (has c') c.args.around.declaration c.args.around.kind (plain_token c.args.token.now) c.args.number (numbers behind) (plain_names c.args.names.now)
    c.args.progress.now (record { turned = c.in_ok-progress.field-0; pending = c.args.progress.now.pending })
    (all_true (has c') (conditions_of c.args.path.now))
    (ap (same Name) (sym c.terminal.ensures) ∙ (sym c.is.ensures ∙ c.if-is.false)) refl
    (turned_by (value (has c') (condition_of c.args.progress.now.turned)) (all_true (has c') (conditions_of c.args.path.now)) (turns c.args.around.kind (plain_token c.args.token.now)) _
    (c.in_ok-progress.ensures (has c') ∙ ap₂ (λ (a b : Bool). a || b) (ap (λ f. value (has c') (condition_of f)) c.replace-turned.ensures.value) (c.in_ok-conjoined.ensures (has c')))
    (sym c.turns.ensures ∙ c.if-turns.true))

pub returns-else-turns-clause-reads : goal.returns-else-turns-clause-reads
returns-else-turns-clause-reads g c = λ c' behind admitted.
    other_token (has c') c.args.around.declaration c.args.around.kind (plain_token c.args.token.now) c.args.number (numbers behind) (plain_names c.args.names.now)
    c.args.progress.now c.args.progress.now (all_true (has c') (conditions_of c.args.path.now))
    (ap (same Name) (sym c.terminal.ensures) ∙ (sym c.is.ensures ∙ c.if-is.false)) refl
    (unturned_by (value (has c') (condition_of c.args.progress.now.turned)) (all_true (has c') (conditions_of c.args.path.now)) (turns c.args.around.kind (plain_token c.args.token.now))
    (sym c.turns.ensures ∙ c.if-turns.false))
