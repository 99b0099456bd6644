use Rattle.std.proofs.Common.{[], ◌∷◌, ◌++◌, map, ap, ◌∙◌}
use Rattle.std.specs.Prelude.{if◌then◌else◌}
use Rattle.std.proofs.lemmas.List.{map-append}
use Rattle.cond_formula.specs.declared.formulas.Formula.{True}
use Rattle.cond_formula.specs.Conditions.{Condition, value}
use Rattle.cond_formula.specs.ConditionLaws.{condition_of-True}
use Rattle.c_text.specs.Token.{PlainToken, plain_token}
use Rattle.conditional.specs.Entries.{seen}
use Rattle.cond_tokens.specs.declared.tokens.CondToken.{CondToken}
use Rattle.cond_tokens.specs.Streams.{plain_entry, tokens_at}
use Rattle.cond_readings.proofs.SeenLemmas.{seen-append}
use Rattle.cond_readings.proofs.tests.Tested.push.Goals as goal

pub returns-clause-tokens : goal.returns-clause-tokens
returns-clause-tokens c =
    λ on.
    let old = c.args.self.now.tokens.items in
    let one : CondToken = record { token = c.in_ok-token.token; when = True } in
    ap (λ ts. tokens_at on ts) c.in_ok-push.ensures.items
    ∙ ap (λ es. seen on es) (map-append plain_entry old (one ∷ []))
    ∙ seen-append on (map plain_entry old) (plain_entry one ∷ [])
    ∙ ap (λ (a : Condition). tokens_at on old ++ (if value on a then plain_token c.in_ok-token.token ∷ [] else [])) condition_of-True
    ∙ ap (λ (t : PlainToken). tokens_at on old ++ t ∷ []) c.in_ok-token.ensures
