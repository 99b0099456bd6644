use Rattle.std.proofs.Common.{◌≡◌, List, IsTrue, ap, sym, ◌∙◌, subst}
use Rattle.cond_formula.specs.Features.{has}
use Rattle.cond_formula.specs.Conditions.{Condition, condition_of, value}
use Rattle.c_text.specs.Token.{PlainToken, plain_token}
use Rattle.c_text.specs.Macros.{replaced}
use Rattle.conditional.specs.Entries.{entries_of, listed, seen}
use Rattle.cond_tokens.specs.Streams.{tokens_at}
use Rattle.macro_table.specs.Features.{macros_at}
use Rattle.cond_expressions.specs.Values.{values_at}
use Rattle.cond_macros.specs.CondReplacements.{Replaces}
use Rattle.cond_groups.proofs.ConditionLemmas.{truth-is}
use Rattle.cond_groups.proofs.conditions.by_tests.Goals as goal

pub returns-clause-truth : goal.returns-clause-truth
returns-clause-truth g c =
    λ k adm within value_of are hash.
    let on = has k in
    let table = macros_at on c.args.macros.now in
    let all = c.in_ok-replacement.replacement in
    let ts_is : seen on (entries_of (λ t. plain_token t.now) c.as_slice.result.now) ≡ tokens_at on c.args.tested.now =
    ap (λ es. seen on (entries_of (λ t. plain_token t.now) es)) c.as_slice.ensures.value ∙ ap (λ es. seen on es) c.in_ok-list.ensures
    in
    let rep = subst (λ (ts : List PlainToken). Replaces on (replaced table ts) all) ts_is (c.in_ok-replacement.ensures.replaces k adm within) in
    let adm' = subst (λ (a : Condition). IsTrue (value on a)) (sym c.in_ok-replacement.ensures.kept) adm in
    let found = c.in_ok-values.ensures.values k adm' in
    let list = c.as_slice-2.result.now in
    let ts_is : tokens_at on list ≡ seen on (listed plain_token all.tokens) = ap (λ es. tokens_at on es) c.as_slice-2.ensures.value ∙ c.in_ok-tokens.ensures on in
    let alone = ap (λ xs. values_at on xs) c.as_slice-3.ensures.value ∙ found.holds_alone in
    c.in_ok-truth.ensures on found.value alone
    ∙ truth-is value_of are hash (replaced table (tokens_at on c.args.tested.now)) (value on (condition_of all.refused)) (tokens_at on list) found.value rep.refused (λ fine. ts_is ∙ rep.tokens fine) found.is_value.number
