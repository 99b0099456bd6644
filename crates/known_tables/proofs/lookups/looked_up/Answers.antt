use Rattle.std.proofs.Common.{subst}
use Rattle.std.specs.Prelude.{reverse}
use Rattle.std.proofs.lemmas.Result.{IfOk-weaker}
use Rattle.conditional.specs.Entries.{alternatives, Sees}
use Rattle.type_tables.specs.Tables.{local_named}
use Rattle.type_tables.specs.Seen.{locals_in, seen_tables}
use Rattle.known_tables.specs.Lookups.{found_in}
use Rattle.known_tables.proofs.lookups.looked_up.Goals as goal

pub returns : goal.returns
returns g c = IfOk-weaker c.seen_behind_all.result _ _ (λ z sees on object function answers.
    let named = (seen_tables on c.args.tables.now).names c.args.name.now in
    subst (λ ls. Sees on (found_in object function (local_named (locals_in on (reverse ls)) c.args.name.now) named) (alternatives g.T.Plain.form z)) c.deref.ensures.value
    (sees on object function named answers (c.in_ok-around.ensures on object function answers))) c.seen_behind_all.ensures
