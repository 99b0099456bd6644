use Rattle.std.proofs.Common.{◌≡◌, Bool, List, map, IsTrue, ap, ◌∙◌, subst}
use Rattle.std.specs.Prelude.{◌&&◌, Option}
use Rattle.std.specs.String.{string_bytes}
use Rattle.cond_formula.specs.Features.{has}
use Rattle.cond_formula.specs.Conditions.{Condition, condition_of, value}
use Rattle.c_text.specs.Token.{PlainToken, plain_token}
use Rattle.c_text.specs.Preprocessing.{Reading}
use Rattle.c_text.specs.Macros.{Table, replaced}
use Rattle.conditional.specs.Entries.{entries_of, listed, seen}
use Rattle.cond_tokens.specs.Streams.{tokens_at}
use Rattle.cond_macros.specs.CondReplacements.{Replaces}
use Rattle.cond_readings.specs.Readings.{reading_at, table_in, unless_refused}
use Rattle.cond_groups.proofs.RunLemmas.{seen-always, emitted-is}
use Rattle.cond_groups.proofs.runs.emit.Goals as goal

pub returns-clause-read : goal.returns-clause-read
returns-clause-read g c =
    λ k adm.
    let on = has k in
    let features = map string_bytes c.args.place.now.features.now in
    let reading = c.args.reading.now in
    let run = map (λ t. plain_token t.now) c.args.run.now in
    let h = value on (condition_of c.args.here.now) in
    let all = c.in_ok-replacement.replacement in
    let table = table_in on features reading.table in
    let list_is : seen on (entries_of (λ t. plain_token t.now) c.as_slice.result.now) ≡ run =
    ap (λ es. seen on (entries_of (λ t. plain_token t.now) es)) c.as_slice.ensures.value ∙ ap (λ es. seen on es) c.in_ok-tokens.ensures ∙ seen-always on (λ t. plain_token t.now) c.args.run.now
    in
    let rep : IsTrue h → Replaces on (replaced table run) all =
    λ here.
    subst (λ (ts : List PlainToken). Replaces on (replaced table ts) all) list_is
    (subst (λ (t : Table). Replaces on (replaced t (seen on (entries_of (λ t. plain_token t.now) c.as_slice.result.now))) all) (c.macros-macros.ensures on) (c.in_ok-replacement.ensures.replaces k adm here))
    in
    let rf = value on (condition_of all.refused) in
    c.in_ok-refuse.ensures on features
    ∙ ap (λ (b : Bool). unless_refused b (reading_at on features c.append.new.self)) (c.in_ok-refused.ensures on ∙ ap (λ (a : Condition). value on a && rf) c.in_ok-try_clone.ensures)
    ∙ ap (λ (o : Option Reading). unless_refused (h && rf) o) (c.in_ok-append.ensures on features)
    ∙ emitted-is (value on (condition_of reading.refused)) h rf table (tokens_at on reading.tokens.items) run (seen on (listed plain_token all.tokens)) (λ here. (rep here).refused) (λ here. (rep here).tokens)
