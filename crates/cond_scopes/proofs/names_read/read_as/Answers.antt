use Rattle.std.proofs.Common.{◌∷◌, sym, subst}
use Rattle.cond_formula.specs.Features.{has}
use Rattle.cond_formula.specs.Conditions.{conditions_of, all_true}
use Rattle.scope_readings.specs.Scopes.{used, tagged}
use Rattle.scope_readings.specs.Walks.{may_declare}
use Rattle.cond_bindings.specs.Names.{Steps}
use Rattle.cond_bindings.specs.PlainNames.{plain_names}
use Rattle.cond_scopes.specs.Roles.{plain_role}
use Rattle.cond_scopes.specs.Progress.{name_read, MovesOn}
use Rattle.cond_scopes.proofs.NameReading.{step_read}
use Rattle.cond_scopes.proofs.names_read.read_as.Goals as goal

pub returns-in_ok-used-in-Use-clause-reads : goal.returns-in_ok-used-in-Use-clause-reads
returns-in_ok-used-in-Use-clause-reads g c = λ c' behind admitted.
    subst (λ role. MovesOn (has c') (all_true (has c') (conditions_of c.args.path.now)) (c.args.name.number ∷ behind) (name_read c.args.around.declaration (plain_role role) c.args.name.text.now) behind
    (plain_names c.args.names.now) c.args.progress.now (plain_names c.used.new.self) c.args.progress.now) (sym c.in-Use.is)
    (step_read (has c') behind (plain_names c.args.names.now) (plain_names c.used.new.self) (all_true (has c') (conditions_of c.args.path.now)) (c.args.name.number ∷ behind)
    (used c.args.name.text.now) c.args.progress.now (c.in_ok-used-in-Use.ensures.seen (has c') behind))

pub returns-in_ok-tagged-in-Tag-clause-reads : goal.returns-in_ok-tagged-in-Tag-clause-reads
returns-in_ok-tagged-in-Tag-clause-reads g c = λ c' behind admitted.
    subst (λ role. MovesOn (has c') (all_true (has c') (conditions_of c.args.path.now)) (c.args.name.number ∷ behind) (name_read c.args.around.declaration (plain_role role) c.args.name.text.now) behind
    (plain_names c.args.names.now) c.args.progress.now (plain_names c.tagged.new.self) c.args.progress.now) (sym c.in-Tag.is)
    (step_read (has c') behind (plain_names c.args.names.now) (plain_names c.tagged.new.self) (all_true (has c') (conditions_of c.args.path.now)) (c.args.name.number ∷ behind)
    (tagged (may_declare c.args.around.declaration) c.args.name.text.now) c.args.progress.now
    (subst (λ may. Steps (has c') (all_true (has c') (conditions_of c.args.path.now)) (c.args.name.number ∷ behind) (tagged may c.args.name.text.now) behind (plain_names c.args.names.now) (plain_names c.tagged.new.self))
    c.may_declare-may_declare.ensures (c.in_ok-tagged-in-Tag.ensures.seen (has c') behind)))
