use Rattle.std.proofs.Common.{Bool, [], ◌∷◌, map, refl, ap, ◌∙◌}
use Rattle.std.specs.Prelude.{not}
use Rattle.std.proofs.lemmas.List.{map-append}
use Rattle.cond_formula.specs.Conditions.{Condition, condition_of, value}
use Rattle.c_text.specs.declared.token.TokenKind.TheVariants.{Number}
use Rattle.c_text.specs.Token.{PlainToken, plain_token}
use Rattle.c_text.specs.Preprocessing as spec
use Rattle.cond_tokens.specs.declared.tokens.CondToken.{CondToken}
use Rattle.cond_tokens.specs.Streams.{plain_entry}
use Rattle.cond_readings.proofs.SeenLemmas.{pushed-either}
use Rattle.cond_readings.proofs.tests.push_test.Goals as goal

pub returns : goal.returns
returns c =
    λ on.
    let t : Bool → PlainToken = λ b. record (plain_token c.args.token.now) { kind = Number; text = spec.digit b } in
    let old = c.args.tokens.now.items in
    let one : CondToken = record { token = c.in_ok-one.one; when = c.args.defined } in
    let zero : CondToken = record { token = c.in_ok-zero.zero; when = c.in_ok-undefined.undefined } in
    pushed-either on t (value on (condition_of c.args.defined)) (map plain_entry old) (map plain_entry c.push.new.self.items) (map plain_entry c.push-2.new.self.items) (plain_entry one) (plain_entry zero)
    (ap (λ ts. map plain_entry ts) c.in_ok-push.ensures.items ∙ map-append plain_entry old (one ∷ []))
    (ap (λ ts. map plain_entry ts) c.in_ok-push-2.ensures.items ∙ map-append plain_entry c.push.new.self.items (zero ∷ []))
    refl
    (c.in_ok-undefined.ensures.holds on ∙ ap (λ (a : Condition). not (value on a)) c.in_ok-try_clone.ensures)
    c.in_ok-one.ensures c.in_ok-zero.ensures
