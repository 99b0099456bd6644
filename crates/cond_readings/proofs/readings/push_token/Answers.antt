use Rattle.std.proofs.Common.{◌≡◌, [], ◌∷◌, ◌++◌, map, ap, ◌∙◌}
use Rattle.std.specs.Prelude.{◌&&◌}
use Rattle.std.proofs.lemmas.List.{map-append}
use Rattle.cond_formula.specs.Conditions.{Condition, condition_of, value}
use Rattle.c_text.specs.Token.{plain_token}
use Rattle.conditional.specs.Entries.{seen}
use Rattle.cond_tokens.specs.Streams.{plain_entry, tokens_at}
use Rattle.cond_readings.proofs.SeenLemmas.{seen-append, seen-under}
use Rattle.cond_readings.proofs.readings.push_token.Goals as goal

pub returns : goal.returns
returns c =
    λ on.
    let old = c.args.tokens.now.items in
    let h = value on (condition_of c.args.here.now) in
    let w = value on (condition_of c.args.entry.when) in
    let k : value on (condition_of c.in_ok-when.when) ≡ (h && w) =
    c.in_ok-when.ensures on ∙ ap (λ (a : Condition). value on a && w) c.in_ok-try_clone.ensures
    in
    ap (λ ts. tokens_at on ts) c.in_ok-push.ensures.items
    ∙ ap (λ es. seen on es) (map-append plain_entry old (record { token = c.args.entry.what; when = c.in_ok-when.when } ∷ []))
    ∙ seen-append on (map plain_entry old) (map plain_entry (record { token = c.args.entry.what; when = c.in_ok-when.when } ∷ []))
    ∙ ap (λ ts. tokens_at on old ++ ts) (seen-under on h w (value on (condition_of c.in_ok-when.when)) (plain_token c.args.entry.what) k)
