use Rattle.std.proofs.Common.{List, map, ap, sym, ◌∙◌}
use Rattle.std.specs.Prelude.{Some}
use Rattle.cond_formula.specs.Features.{has}
use Rattle.c_text.specs.Token.{plain_token}
use Rattle.cond_tokens.specs.declared.tokens.CondToken.{CondToken}
use Rattle.cond_tokens.specs.Streams.{tokens_at}
use Rattle.macro_table.specs.Features.{macros_at}
use Rattle.cond_groups.proofs.ConditionLemmas.{expression-refused, expression-untested, expression-is}
use Rattle.cond_groups.proofs.conditions.expression.Goals as goal

pub returns-then-refuse-clause-truth : goal.returns-then-refuse-clause-truth
returns-then-refuse-clause-truth g c =
    λ k adm within value_of are hash.
    c.refused_line.ensures (has k)
    ∙ expression-refused value_of (macros_at (has k) c.args.macros.now) hash (map plain_token c.args.tokens.now) (sym c.refuse.ensures ∙ c.if-refuse.true)

pub returns-in-None-clause-truth : goal.returns-in-None-clause-truth
returns-in-None-clause-truth g c =
    λ k adm within value_of are hash.
    c.refused_line-in-None.ensures (has k)
    ∙ expression-untested value_of (macros_at (has k) c.args.macros.now) hash (map plain_token c.args.tokens.now) (rw c.in-None.is at (c.in_ok-tested.ensures k))

pub returns-in_ok-by_tests-in-Some-clause-truth : goal.returns-in_ok-by_tests-in-Some-clause-truth
returns-in_ok-by_tests-in-Some-clause-truth g c =
    λ k adm within value_of are hash.
    let table = macros_at (has k) c.args.macros.now in
    let tokens = map plain_token c.args.tokens.now in
    let tested = tokens_at (has k) c.as_slice.result.now in
    c.in_ok-by_tests-in-Some.ensures.truth k adm within value_of are hash
    ∙ expression-is value_of table hash tokens tested (sym c.refuse.ensures ∙ c.if-refuse.false)
    (ap (λ (ts : List CondToken). Some (tokens_at (has k) ts)) c.as_slice.ensures.value ∙ (rw c.in-Some.is at (c.in_ok-tested.ensures k)))
