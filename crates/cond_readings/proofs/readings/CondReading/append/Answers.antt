use Rattle.std.proofs.Common.{List, ap, ◌∙◌}
use Rattle.std.specs.Prelude.{if◌then◌else◌, None, Some}
use Rattle.cond_formula.specs.Conditions.{condition_of, value}
use Rattle.c_text.specs.Token.{PlainToken, plain_token}
use Rattle.conditional.specs.Entries.{listed, seen, under}
use Rattle.cond_tokens.specs.Streams.{tokens_at}
use Rattle.c_text.specs.Preprocessing.{Reading}
use Rattle.cond_readings.specs.Readings.{table_in}
use Rattle.cond_readings.specs.TakenLaws.{map-unless}
use Rattle.cond_readings.proofs.readings.CondReading.append.Goals as goal

pub returns : goal.returns
returns c =
    λ on features.
    let old = c.args.self.now in
    let b = value on (condition_of old.refused) in
    let table = table_in on features old.table in
    ap (λ (ts : List PlainToken). if b then None else Some (let v : Reading = record { table = table; tokens = ts } in v)) (c.in_ok-push_list.ensures on)
    ∙ map-unless b (under (value on (condition_of c.args.here.now)) (seen on (listed plain_token c.args.list))) (record { table = table; tokens = tokens_at on old.tokens.items })
