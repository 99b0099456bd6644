use Rattle.std.proofs.Common.{◌≡◌, ℕ, ◌+◌, ◌++◌, ◌∷◌, [], List, map, take, max, Vec, Global, nat_eq, sym, ◌∙◌, ap, subst}
use Rattle.std.specs.List.{starts_with}
use Rattle.std.proofs.lemmas.List.{take_more, map_push}
use Rattle.quick_rename.specs.Fronts.{begins_name, IsFrontLength}
use Rattle.quick_rename.proofs.FrontLengths.{names_more}
use Rattle.quick_rename.proofs.fault.tested_len.Goals as goal

pub loop-name-preserved : goal.loop-name-preserved
loop-name-preserved c =
    let bytes : Vec ℕ Global → List ℕ = λ v. v.items in
    let items = c.tested-name-items.result.now in
    let i = c.loop-name.name-index in
    let x = c.name-item.result in
    let w = c.args.word.now in
    let next : take (i + 1) items ≡ take i items ++ x ∷ [] = take_more items i x c.loop-name-test.true ∙ ap (λ y. take i items ++ y ∷ []) (sym c.name-item.is) in
    let names : map bytes (take (i + 1) items) ≡ map bytes (take i items) ++ bytes x ∷ [] = ap (map bytes) next ∙ map_push bytes (take i items) x in
    let one : IsFrontLength (starts_with nat_eq (bytes x)) w c.common_len.result = subst (λ n. IsFrontLength (starts_with nat_eq n) w c.common_len.result) c.as_slice.ensures.value c.common_len.ensures in
    let both = names_more (map bytes (take i items)) (bytes x) w c.loop-name.longest c.common_len.result c.loop-name.invariant one in
    subst (λ (m : ℕ). IsFrontLength (begins_name (map bytes (take (i + 1) items))) w m) (sym c.longer-longest.ensures) (subst (λ ns. IsFrontLength (begins_name ns) w (max c.loop-name.longest c.common_len.result)) (sym names) both)
