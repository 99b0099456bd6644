use Rattle.std.proofs.Common.{◌≡◌, ◌+◌, Bool, List, ◌∷◌, map, drop, ap, sym, ◌∙◌}
use Rattle.std.specs.Prelude.{if◌then◌else◌, None}
use Rattle.std.proofs.lemmas.List.{drop_more}
use Rattle.cond_formula.specs.Features.{has}
use Rattle.c_text.specs.declared.token.Token.{Token}
use Rattle.c_text.specs.Token.{plain_token}
use Rattle.macro_table.specs.Features.{macros_at}
use Rattle.cond_readings.specs.Tests.{tested_with}
use Rattle.cond_readings.proofs.tests.tests_replaced.Goals as goal

pub returns-then-not-branch : goal.returns-then-not-branch
returns-then-not-branch c =
    λ k.
    let on = has k in
    let table = macros_at on c.args.macros.now in
    let tokens = c.args.tokens.now in
    let i = c.loop-i.i in
    let token = c.index-tokens-i.result in
    let next : drop i tokens ≡ token ∷ drop (i + 1) tokens =
    drop_more tokens i token c.loop-i-test.true ∙ ap (λ (t : Token). t ∷ drop (i + 1) tokens) (sym c.index-tokens-i.is)
    in
    sym
    (sym (c.loop-i.invariant k)
    ∙ ap (λ (ts : List Token). tested_with on table c.loop-i.tested (map plain_token ts)) next
    ∙ ap (λ (ts : List Token). tested_with on table c.loop-i.tested (plain_token token ∷ map plain_token ts)) (sym c.split_at.ensures.back)
    ∙ c.in_ok-take.ensures k
    ∙ ap (λ (b : Bool). if b then tested_with on table c.take.new.self (map plain_token c.split_at.result.1.now) else None) c.if-not-branch.true)
