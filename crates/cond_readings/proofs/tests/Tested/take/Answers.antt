use Rattle.std.proofs.Common.{ℕ, List, map, ap, sym, ◌∙◌}
use Rattle.cond_formula.specs.Features.{has}
use Rattle.c_text.specs.Token.{plain_token, PlainToken}
use Rattle.c_text.specs.Preprocessing.{tests_replaced}
use Rattle.macro_table.specs.Features.{macros_at}
use Rattle.cond_tokens.specs.Streams.{tokens_at}
use Rattle.cond_readings.specs.Tests.{with_front}
use Rattle.cond_readings.proofs.TestLemmas.{at-defined, at-other}
use Rattle.cond_readings.proofs.tests.Tested.take.Goals as goal

pub returns-then-is_spelled : goal.returns-then-is_spelled
returns-then-is_spelled c =
    λ k.
    let s = c.args.self.now in
    let e = at-defined (macros_at (has k) c.args.macros.now) (tokens_at (has k) s.tokens.items) s.more (plain_token c.args.token.now) (map plain_token c.args.rest.now) c.if-self-gt0.false (sym c.is_spelled.ensures ∙ c.if-is_spelled.true) in
    e ∙ c.in_ok-take_defined.ensures k

pub returns : goal.returns
returns c =
    λ k.
    let s = c.args.self.now in
    let table = macros_at (has k) c.args.macros.now in
    let rest = map plain_token c.args.rest.now in
    let e = at-other table (tokens_at (has k) s.tokens.items) s.more (plain_token c.args.token.now) rest c.if-self-gt0.false (sym c.is_spelled.ensures ∙ c.if-is_spelled.false) in
    e ∙ ap (λ (ts : List PlainToken). with_front ts (tests_replaced table s.more rest)) (sym (c.in_ok-push.ensures.tokens (has k)))
    ∙ ap (λ (m : ℕ). with_front (tokens_at (has k) c.push.new.self.tokens.items) (tests_replaced table m rest)) (sym c.push.ensures.more)
