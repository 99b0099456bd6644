use Rattle.std.proofs.Common.{List, ◌+◌, reverse, refl, sym, subst}
use Rattle.std.specs.Prelude.{take}
use Rattle.std.proofs.lemmas.List.{take_all}
use Rattle.conditional.specs.Entries.{alternatives, Sees}
use Rattle.type_tables.specs.Tables.{local_named}
use Rattle.type_tables.specs.Seen.{locals_in}
use Rattle.type_tables.specs.declared.entries.LocalName.{LocalName}
use Rattle.known_tables.specs.Lookups.{found_in}
use Rattle.known_tables.proofs.Looking.{latest}
use Rattle.known_tables.proofs.lookups.seen_behind_all.Goals as goal

pub loop-local-preserved : goal.loop-local-preserved
loop-local-preserved g c = λ on object function named answers around.
    subst (λ (ls : List LocalName). Sees on (found_in object function (local_named (locals_in on ls) c.args.name.now) named) (alternatives g.T.Plain.form c.in_ok-seen.seen))
    (sym (latest c.args.locals.now c.loop-local.local-index (c.loop-local.local-index + 1) c.local-item.result refl c.loop-local-test.true c.local-item.is))
    (c.in_ok-seen.ensures on object function (reverse (take c.loop-local.local-index c.args.locals.now)) named answers (c.loop-local.invariant on object function named answers around))

pub returns : goal.returns
returns g c = λ on object function named answers around.
    subst (λ (ls : List LocalName). Sees on (found_in object function (local_named (locals_in on (reverse ls)) c.args.name.now) named) (alternatives g.T.Plain.form c.loop-local.seen))
    (take_all c.loop-local.local-index c.args.locals.now c.loop-local-test.false) (c.loop-local.invariant on object function named answers around)
