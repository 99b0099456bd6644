-- Arguments that are replaced, one after the other.
use Rattle.std.proofs.Common.{◌≡◌, ℕ, ◌+◌, ◌<◌, ◌≤◌, Bool, List, [], ◌∷◌, map, drop, length, get_or, Option, Some, None, Vec, Global, refl, sym, ap, ◌∙◌, append_assoc, append-nil}
use Rattle.std.proofs.lemmas.List.{drop_all}
use Rattle.c_text.specs.Macros as spec
use Rattle.conditional.specs.declared.entries.Guarded.{Guarded}
use Rattle.cond_bodies.specs.declared.item.Item.{Item}
use Rattle.cond_bodies.specs.CondItems.{items_at}
use Rattle.cond_bodies.specs.Cores.{cores}
use Rattle.cond_runs.specs.CondArguments.{lists_at}
use Rattle.cond_runs.proofs.ArgumentLemmas.{next_element}
use Rattle.cond_macros.specs.Below.{cores_of, all_cores_of, behind_lists, one_list}

replaced_cases : (old rest : Option (List (List spec.Item))) (x : Option (List spec.Item)) →
    behind_lists (behind_lists old (one_list (cores_of x))) (all_cores_of rest) ≡ behind_lists old (all_cores_of (spec.and_then x rest))
replaced_cases None rest x = refl
replaced_cases (Some old) rest None = refl
replaced_cases (Some old) None (Some x) = refl
replaced_cases (Some old) (Some rest) (Some x) = ap (λ (l : List (List spec.Item)). Some l) (append_assoc old (cores x ∷ []) (map cores rest))

pub replaced_step : (on : ℕ → Bool) (deeper : spec.Deeper) (active : List (List ℕ)) (xs : List (Vec (Guarded Item) Global)) (x : Vec (Guarded Item) Global) (i : ℕ) (old new all : Option (List (List spec.Item))) (given : Option (List spec.Item)) → i < length xs → x ≡ get_or xs i x →
    new ≡ behind_lists old (one_list given) → given ≡ cores_of (deeper active (items_at on x.items)) →
    behind_lists old (all_cores_of (spec.all_replaced deeper active (lists_at on (drop i xs)))) ≡ all → behind_lists new (all_cores_of (spec.all_replaced deeper active (lists_at on (drop (i + 1) xs)))) ≡ all
replaced_step on deeper active xs x i old new all given within is pushed is_given before =
    let before' = rw (next_element (λ (v : Vec (Guarded Item) Global). items_at on v.items) xs x i within is) at before in
    let rest = spec.all_replaced deeper active (lists_at on (drop (i + 1) xs)) in
    ap (λ (o : Option (List (List spec.Item))). behind_lists o (all_cores_of rest)) (pushed ∙ ap (λ (o : Option (List spec.Item)). behind_lists old (one_list o)) is_given)
    ∙ replaced_cases old rest (deeper active (items_at on x.items)) ∙ before'

pub replaced_end : (on : ℕ → Bool) (deeper : spec.Deeper) (active : List (List ℕ)) (xs : List (Vec (Guarded Item) Global)) (i : ℕ) (old all : Option (List (List spec.Item))) → length xs ≤ i →
    behind_lists old (all_cores_of (spec.all_replaced deeper active (lists_at on (drop i xs)))) ≡ all → old ≡ all
replaced_end on deeper active xs i old all past before =
    let e = drop_all i xs past in
    let before' = rw e at before in
    nothing_behind old ∙ before'
  where
    nothing_behind : (o : Option (List (List spec.Item))) → o ≡ behind_lists o (Some [])
    nothing_behind None = refl
    nothing_behind (Some lists) = ap (λ (l : List (List spec.Item)). Some l) (sym (append-nil lists))

pub replaced_init : (r : Option (List (List spec.Item))) → behind_lists (Some []) r ≡ r
replaced_init None = refl
replaced_init (Some lists) = refl
