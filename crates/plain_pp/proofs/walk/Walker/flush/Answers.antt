use Rattle.std.proofs.Common.{List, map, ap, ◌∙◌, subst, Bor}
use Rattle.c_text.specs.declared.token.Token.{Token}
use Rattle.c_text.specs.Token.{PlainToken, plain_token}
use Rattle.c_text.specs.Macros.{replaced}
use Rattle.c_text.specs.Preprocessing.{Flow, emitted, refused_token}
use Rattle.plain_macros.specs.PlainTables.{table_of}
use Rattle.plain_pp.specs.Readings.{plain_reading, Follows}
use Rattle.plain_pp.proofs.walk.Walker.flush.Goals as goal

abbrev plain : List (Bor Token) → List PlainToken
plain tokens = map (λ t. plain_token t.now) tokens

pub returns-clause-flow : goal.returns-clause-flow
returns-clause-flow c =
    let r = plain_reading c.args.reading.now in
    let table = table_of c.args.reading.now.table in
    let run = c.args.self.now.run.items in
    let first = c.as_slice.result.now in
    let second = c.as_slice-2.result.now in
    let e =
    ap (λ (xs : List (Bor Token)). emitted r (plain xs) (refused_token (plain xs)) (replaced table (plain first))) c.as_slice-2.ensures.value
    ∙ ap (λ (xs : List (Bor Token)). emitted r (plain run) (refused_token (plain run)) (replaced table (plain xs))) c.as_slice.ensures.value
    in
    subst (λ (flow : Flow). Follows c.emit-outcome.result flow (plain_reading c.emit-outcome.new.reading)) e (c.emit-outcome.ensures (replaced table (plain first)) c.in_ok-replacement.ensures)
