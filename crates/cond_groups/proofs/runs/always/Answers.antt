use Rattle.std.proofs.Common.{◌≡◌, ◌+◌, [], ◌∷◌, ◌++◌, map, take, Bor, ap, sym, ◌∙◌}
use Rattle.std.proofs.lemmas.List.{map-append, take_more}
use Rattle.cond_formula.specs.declared.formulas.Formula.{True}
use Rattle.cond_formula.specs.Conditions.{Condition}
use Rattle.cond_formula.specs.ConditionLaws.{condition_of-True}
use Rattle.c_text.specs.declared.token.Token.{Token}
use Rattle.c_text.specs.Token.{PlainToken, plain_token}
use Rattle.conditional.specs.Entries.{Entry, entry_of, entries_of}
use Rattle.conditional.specs.declared.entries.Guarded.{Guarded}
use Rattle.cond_groups.specs.Truths.{always_entry}
use Rattle.cond_groups.proofs.runs.always.Goals as goal

pub loop-token-preserved : goal.loop-token-preserved
loop-token-preserved c =
    let form : Bor Token → PlainToken = λ t. plain_token t.now in
    let made : Bor Token → Entry PlainToken = λ t. always_entry (plain_token t.now) in
    let run = c.args.run.now in
    let i = c.loop-token.token-index in
    let item = c.token-item.result in
    let before = c.loop-token.tokens.items in
    let one : Guarded (Bor Token) = record { when = True; what = item } in
    let entry : entry_of form one ≡ made item = ap (λ (a : Condition). let e : Entry PlainToken = record { when = a; what = form item } in e) condition_of-True in
    let next : take (i + 1) run ≡ take i run ++ item ∷ [] = take_more run i item c.loop-token-test.true ∙ ap (λ t. take i run ++ t ∷ []) (sym c.token-item.is) in
    ap (λ ts. entries_of form ts) c.in_ok-push.ensures.items
    ∙ map-append (entry_of form) before (one ∷ [])
    ∙ ap (λ es. es ++ entry_of form one ∷ []) c.loop-token.invariant
    ∙ ap (λ e. map made (take i run) ++ e ∷ []) entry
    ∙ sym (map-append made (take i run) (item ∷ []))
    ∙ ap (λ ts. map made ts) (sym next)
