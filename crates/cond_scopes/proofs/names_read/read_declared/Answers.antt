use Rattle.std.proofs.Common.{◌∷◌, refl, ap, subst}
use Rattle.cond_formula.specs.Conditions.{conditions, conditions_of, all_true}
use Rattle.scope_readings.specs.Scopes.{named}
use Rattle.cond_bindings.specs.Names.{Steps}
use Rattle.cond_bindings.specs.PlainNames.{plain_names}
use Rattle.cond_scopes.proofs.NameReading.{declared_read}
use Rattle.cond_scopes.proofs.names_read.read_declared.Goals as goal

pub returns-clause-reads : goal.returns-clause-reads
returns-clause-reads c = λ on behind.
    declared_read on behind (plain_names c.args.names.now) (plain_names c.named.new.self) c.args.around.declaration c.args.name.text.now c.args.name.number
    (all_true on (conditions_of c.args.path.now)) c.args.progress.now (record { turned = c.args.progress.now.turned; pending = c.push.new.self }) _
    refl c.in_ok-push.ensures.items refl refl (ap (λ list. all_true on (conditions list)) c.in_ok-copied.ensures)
    (subst (λ scope. Steps on (all_true on (conditions_of c.args.path.now)) (c.args.name.number ∷ behind) (named scope c.args.name.text.now) behind (plain_names c.args.names.now) (plain_names c.named.new.self))
    c.scope_of.ensures (c.in_ok-named.ensures.seen on behind))
