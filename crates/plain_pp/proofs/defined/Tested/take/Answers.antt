use Rattle.std.proofs.Common.{◌≡◌, List, map, ap, sym, ◌∙◌, ◌++◌, ◌∷◌, []}
use Rattle.std.proofs.lemmas.List.{map-append}
use Rattle.c_text.specs.Token.{plain_token, PlainToken}
use Rattle.c_text.specs.Preprocessing.{tests_replaced}
use Rattle.plain_macros.specs.PlainTables.{table_of}
use Rattle.plain_pp.specs.Tests.{with_tokens}
use Rattle.plain_pp.proofs.TestLemmas.{at-defined, at-other}
use Rattle.plain_pp.proofs.defined.Tested.take.Goals as goal

pub returns-then-is_spelled : goal.returns-then-is_spelled
returns-then-is_spelled c =
    let s = c.args.self.now in
    let e = at-defined (table_of c.args.table.now) (map plain_token s.tokens.items) s.more (plain_token c.args.token.now) (map plain_token c.args.rest.now) c.if-self-gt0.false (sym c.is_spelled.ensures ∙ c.if-is_spelled.true) in
    e ∙ c.in_ok-take_defined.ensures

pub returns : goal.returns
returns c =
    let s = c.args.self.now in
    let rest = map plain_token c.args.rest.now in
    let e = at-other (table_of c.args.table.now) (map plain_token s.tokens.items) s.more (plain_token c.args.token.now) rest c.if-self-gt0.false (sym c.is_spelled.ensures ∙ c.if-is_spelled.false) in
    let m = map-append plain_token s.tokens.items (c.in_ok-try_clone.field-0 ∷ []) in
    let pushed : map plain_token c.push.new.self.items ≡ map plain_token s.tokens.items ++ plain_token c.args.token.now ∷ [] =
    ap (λ xs. map plain_token xs) c.in_ok-push.ensures.items ∙ m ∙ ap (λ (t : PlainToken). map plain_token s.tokens.items ++ t ∷ []) c.in_ok-try_clone.ensures
    in
    e ∙ ap (λ (ts : List PlainToken). with_tokens ts (tests_replaced (table_of c.args.table.now) s.more rest)) (sym pushed)
