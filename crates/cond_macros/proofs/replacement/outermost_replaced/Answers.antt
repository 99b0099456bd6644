use Rattle.std.proofs.Common.{◌≡◌, true, ℕ, List, [], map, Bor, sym, ap, subst, ◌∙◌}
use Rattle.c_text.specs.declared.token.Token.{Token}
use Rattle.c_text.specs.Token.{plain_token}
use Rattle.c_text.specs.Macros as spec
use Rattle.cond_formula.specs.Features.{has}
use Rattle.cond_formula.specs.Conditions.{condition_of, value}
use Rattle.conditional.specs.declared.entries.Guarded.{Guarded}
use Rattle.conditional.specs.Entries.{entries_of, seen}
use Rattle.macro_table.specs.Features.{macros_at}
use Rattle.cond_bodies.specs.declared.item.Item.{Item}
use Rattle.cond_bodies.specs.CondItems.{items_at}
use Rattle.cond_macros.specs.Below.{below}
use Rattle.cond_runs.specs.CondFinished.{given_at}
use Rattle.cond_macros.specs.Owned.{AreOwn}
use Rattle.cond_macros.specs.Readings.{look}
use Rattle.cond_macros.proofs.CallLemmas.{outcome_is}
use Rattle.cond_macros.proofs.replacement.outermost_replaced.Goals as goal

pub returns-clause-replaces : goal.returns-clause-replaces
unfolding given_at
returns-clause-replaces g c = λ n admitted within.
    let on = has n in
    let table = macros_at on c.args.macros in
    let tokens = seen on (entries_of (λ t. plain_token t.now) c.args.tokens.now) in
    let items : items_at on c.as_slice-2.result.now ≡ map spec.fresh tokens = ap (λ (l : List (Guarded Item)). items_at on l) c.as_slice-2.ensures.value ∙ c.in_ok-items.ensures.items on in
    let own : AreOwn c.as_slice-2.result.now = subst (λ (l : List (Guarded Item)). AreOwn l) (sym c.as_slice-2.ensures.value) c.in_ok-items.ensures.own in
    let names : map (λ name. name.now.text.items) c.as_slice.result.now ≡ [] = ap (map (λ (name : Bor Token). name.now.text.items)) (c.as_slice.ensures.value ∙ c.new-active.ensures.items) in
    let f = c.in_ok-f.f in
    let given : given_at true on f ≡ look true (spec.replaced table tokens) =
    c.in_ok-f.ensures.given true n admitted within (λ e. own)
    ∙ ap (λ (active : List (List ℕ)). look true (spec.outside table (below table 256) active (items_at on c.as_slice-2.result.now))) names
    ∙ ap (λ (l : List spec.Item). look true (spec.outside table (below table 256) [] l)) items in
    let outcome = outcome_is (value on (condition_of f.refused)) (items_at on f.items.items) (spec.replaced table tokens) given in
    record {
      refused = outcome.0;
      tokens = λ fine. c.in_ok-tokens.ensures on ∙ ap (λ (l : List (Guarded Item)). map (λ i. i.token) (items_at on l)) c.as_slice-3.ensures.value ∙ outcome.1 fine;
    }
