use Rattle.std.proofs.Common.{◌≡◌, List, map, ap, sym, ◌∙◌, ◌++◌, ◌∷◌, [], Option, Some}
use Rattle.std.proofs.lemmas.List.{map-append}
use Rattle.c_text.specs.Token.{plain_token, PlainToken}
use Rattle.c_text.specs.Preprocessing as spec
use Rattle.c_text.specs.Preprocessing.{tests_replaced, by_test, tested}
use Rattle.plain_macros.specs.PlainTables.{table_of}
use Rattle.plain_pp.specs.Tests.{with_tokens}
use Rattle.unit_files.specs.Tests.{plain_test}
use Rattle.plain_pp.proofs.TestLemmas.{with-one}
use Rattle.plain_pp.proofs.defined.Tested.take_defined.Goals as goal

pub returns : goal.returns
returns c =
    let s = c.args.self.now in
    let before = map plain_token s.tokens.items in
    let table = table_of c.args.table.now in
    let rest = map plain_token c.args.rest.now in
    let test = c.in-Some.test in
    let token = plain_token c.args.token.now in
    let one = tested table token (plain_test test) in
    let found : Some (plain_test test) ≡ spec.test_at rest = c.in-Some.ensures in
    let m = map-append plain_token s.tokens.items (c.in_ok-test_token.field-0 ∷ []) in
    let pushed : map plain_token c.push.new.self.items ≡ before ++ one ∷ [] =
    ap (λ xs. map plain_token xs) c.in_ok-push.ensures.items ∙ m ∙ ap (λ (t : PlainToken). before ++ t ∷ []) (c.in_ok-test_token.ensures test.length)
    in
    ap (λ (o : Option spec.Test). with_tokens before (by_test table token o (λ more. tests_replaced table more rest))) (sym found)
    ∙ with-one before one (tests_replaced table test.length rest)
    ∙ ap (λ (ts : List PlainToken). with_tokens ts (tests_replaced table test.length rest)) (sym pushed)
