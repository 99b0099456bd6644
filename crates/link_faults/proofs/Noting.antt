-- Names that are noted once.
use Rattle.std.proofs.Common.{◌≡◌, ℕ, Bool, true, false, ◌||◌, List, [], ◌∷◌, ◌++◌, map, refl, sym, ap, ◌∙◌}
use Rattle.std.specs.Prelude.{if◌then◌else◌}
use Rattle.std.specs.List.{list_any}
use Rattle.std.specs.Str.{bytes_eq}
use Rattle.std.proofs.lemmas.List.{map-append}
use Rattle.std.proofs.lemmas.List.Folds.{list_any-append}
use Rattle.std.proofs.lemmas.Slice.Eq.{bytes_eq-Decides}
use Rattle.link_faults.proofs.Loops.{or_none}
use Rattle.link_faults.specs.Mentioned.{with_name}
use Rattle.link_faults.proofs.Walks.{any_map}

-- a vector more is a name more
pub with_name-map :
    {X : Type 0} (f : X → List ℕ) (xs : List X) (x : X)
    → map f (if list_any (λ y. bytes_eq (f x) (f y)) xs then xs else xs ++ x ∷ []) ≡ with_name (map f xs) (f x)
with_name-map {X} f xs x = by (list_any (λ y. bytes_eq (f x) (f y)) xs) ∙ ap (λ b. if b then map f xs else map f xs ++ f x ∷ []) (sym (any_map (bytes_eq (f x)) f xs))
  where
    by : (b : Bool) → map f (if b then xs else xs ++ x ∷ []) ≡ (if b then map f xs else map f xs ++ f x ∷ [])
    by true = refl
    by false = map-append f xs (x ∷ [])

-- which names there are with one more
pub with_name_has : (names : List (List ℕ)) (more name : List ℕ) → list_any (bytes_eq name) (with_name names more) ≡ (list_any (bytes_eq name) names || bytes_eq name more)
with_name_has names more name = by (list_any (bytes_eq more) names) refl
  where
    same : (b : Bool) → bytes_eq name more ≡ b → list_any (bytes_eq more) names ≡ true → list_any (bytes_eq name) names ≡ (list_any (bytes_eq name) names || b)
    same true e h =
        let there = ap (λ n. list_any (bytes_eq n) names) ((bytes_eq-Decides name more).0 e) ∙ h in
        there ∙ sym (ap (λ b. b || true) there)
    same false e h = sym (or_none (list_any (bytes_eq name) names))

    by : (b : Bool) → list_any (bytes_eq more) names ≡ b
        → list_any (bytes_eq name) (if b then names else names ++ more ∷ []) ≡ (list_any (bytes_eq name) names || bytes_eq name more)
    by true h = same (bytes_eq name more) refl h
    by false h = list_any-append (bytes_eq name) names (more ∷ []) ∙ ap (λ b. list_any (bytes_eq name) names || b) (or_none (bytes_eq name more))
