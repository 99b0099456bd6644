use Rattle.std.proofs.Common.{◌≡◌, ℕ, Bool, true, false, not, ◌&&◌, if◌then◌else◌, List, None, sym, ap, ◌∙◌}
use Rattle.c_text.specs.Macros as spec
use Rattle.cond_formula.specs.Features.{has}
use Rattle.cond_formula.specs.Conditions.{value}
use Rattle.cond_formula.specs.ConditionLaws.{condition_of-False}
use Rattle.conditional.specs.declared.entries.Guarded.{Guarded}
use Rattle.conditional.specs.Entries.{entries_of, some_holds}
use Rattle.macro_table.specs.Features.{macros_at}
use Rattle.cond_bodies.specs.declared.meanings.Function.{Function}
use Rattle.cond_bodies.specs.CondItems.{item_at}
use Rattle.cond_bodies.specs.CondMeanings.{PlainFunction, plain_function}
use Rattle.cond_bodies.proofs.SpellingLemmas.{item_text}
use Rattle.cond_bodies.proofs.LevelLemmas.{is_some_list, holds_is_seen, function_is}
use Rattle.cond_bodies.proofs.levels.when_function.Goals as goal

pub returns-then-not-is_name : goal.returns-then-not-is_name
returns-then-not-is_name c = λ n.
    let table = macros_at (has n) c.args.macros.now in
    let item = item_at (has n) c.args.item.now in
    let none : (spec.is_name_kind item.token.kind && not item.kept) ≡ false = sym (c.is_name.ensures (has n)) ∙ c.if-not-is_name.true in
    ap (value (has n)) condition_of-False
    ∙ ap (λ (b : Bool). spec.is_function (if b then table item.token.text else None)) (sym none)

pub returns : goal.returns
returns c = λ n.
    let table = macros_at (has n) c.args.macros.now in
    let item = item_at (has n) c.args.item.now in
    let functions = c.in_ok-meanings.meanings.functions.items in
    let name : (spec.is_name_kind item.token.kind && not item.kept) ≡ true = sym (c.is_name.ensures (has n)) ∙ c.if-not-is_name.false in
    c.in_ok-functions.ensures (has n)
    ∙ ap (λ (l : List (Guarded Function)). some_holds (has n) (entries_of (λ x. x) l)) c.as_slice-2.ensures.value
    ∙ holds_is_seen plain_function (has n) functions
    ∙ ap (λ (l : List PlainFunction). is_some_list l) (c.in_ok-meanings.ensures n).functions
    ∙ function_is (table c.as_slice.result.now)
    ∙ ap (λ (t : List ℕ). spec.is_function (table t)) (c.as_slice.ensures.value ∙ sym (item_text (has n) c.args.item.now))
    ∙ ap (λ (b : Bool). spec.is_function (if b then table item.token.text else None)) (sym name)
