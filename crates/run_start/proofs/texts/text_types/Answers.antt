use Rattle.std.proofs.Common.{◌<◌, ◌≤◌, ℕ, List, [], ◌∷◌, ◌++◌, length, get_or, map, subst, ap, ◌∙◌, Vec}
use Rattle.std.specs.declared.alloc.Global.{Global}
use Rattle.std.proofs.lemmas.List.{map-append, take_all}
use Rattle.c_types.specs.Types.{plain_type}
use Rattle.run_start.specs.Starts.{text_type}
use Rattle.run_start.proofs.ObjectLemmas.{mapped_more}
use Rattle.run_start.proofs.texts.text_types.Goals as goal

pub loop-text-preserved : goal.loop-text-preserved
loop-text-preserved c =
    let types = c.loop-text.types.items in
    let ty = c.in_ok-ty.ty in
    let i = c.loop-text.text-index in
    let item = c.text-item.result in
    let shown = c.deref-text-items.ensures.value in
    ap (map plain_type) c.in_ok-push.ensures.items
    ∙ (map-append plain_type types (ty ∷ [])
    ∙ (ap (λ t. map plain_type types ++ t ∷ []) (c.in_ok-ty.ensures ∙ ap text_type c.deref.ensures.value)
    ∙ mapped_more (λ (bytes : Vec ℕ Global). text_type bytes.items) c.args.program.now.literals.items i item (map plain_type types) (subst (λ (xs : List (Vec ℕ Global)). i < length xs) shown c.loop-text-test.true) (c.text-item.is ∙ ap (λ xs. get_or xs i item) shown) c.loop-text.invariant))

pub returns : goal.returns
returns c =
    let i = c.loop-text.text-index in
    c.loop-text.invariant
    ∙ ap (map (λ (bytes : Vec ℕ Global). text_type bytes.items)) (take_all i c.args.program.now.literals.items (subst (λ (xs : List (Vec ℕ Global)). length xs ≤ i) c.deref-text-items.ensures.value c.loop-text-test.false))
