use Rattle.std.proofs.Common.{◌≡◌, ℕ, List, Bool, map, ap, sym, ◌∙◌, ◌++◌, ◌∷◌, []}
use Rattle.std.specs.Prelude.{Option, Some, is_some}
use Rattle.cond_formula.specs.Features.{has}
use Rattle.c_text.specs.declared.token.TokenKind.TheVariants.{Number}
use Rattle.c_text.specs.Token.{plain_token, PlainToken}
use Rattle.c_text.specs.Preprocessing as spec
use Rattle.c_text.specs.Preprocessing.{tests_replaced, by_test, tested}
use Rattle.macro_table.specs.Features.{macros_at}
use Rattle.cond_tokens.specs.Streams.{tokens_at}
use Rattle.unit_files.specs.Tests.{plain_test}
use Rattle.cond_readings.specs.Tests.{with_front}
use Rattle.cond_readings.proofs.TestLemmas.{with-one}
use Rattle.cond_readings.proofs.tests.Tested.take_defined.Goals as goal

pub returns : goal.returns
returns c =
    λ k.
    let on = has k in
    let s = c.args.self.now in
    let before = tokens_at on s.tokens.items in
    let table = macros_at on c.args.macros.now in
    let rest = map plain_token c.args.rest.now in
    let test = c.in-Some.test in
    let token = plain_token c.args.token.now in
    let one = tested table token (plain_test test) in
    let found : Some (plain_test test) ≡ spec.test_at rest = c.in-Some.ensures in
    let pushed : tokens_at on c.push_test.new.tokens.items ≡ before ++ one ∷ [] =
    c.in_ok-push_test.ensures on
    ∙ ap (λ (b : Bool). before ++ (let t : PlainToken = record token { kind = Number; text = spec.digit b } in t) ∷ []) (c.in_ok-defined.ensures k ∙ ap (λ (name : List ℕ). is_some (table name)) c.as_slice.ensures.value)
    in
    ap (λ (o : Option spec.Test). with_front before (by_test table token o (λ more. tests_replaced table more rest))) (sym found)
    ∙ with-one before one (tests_replaced table test.length rest)
    ∙ ap (λ (ts : List PlainToken). with_front ts (tests_replaced table test.length rest)) (sym pushed)
