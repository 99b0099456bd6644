-- The configuration that names make.
use Rattle.std.proofs.Common.{◌≡◌, inl, inr, ℕ, ◌≤◌, ◌<◌, Bool, true, false, ◌&&◌, List, [], ◌∷◌, length, map, String, Global, sym, ◌∙◌, ap, refl, slice_index_or}
use Rattle.std.proofs.lemmas.Bool.{cases_lt}
use Rattle.std.proofs.lemmas.List.{get_or-map, get_or_past, length-map}
use Rattle.std.specs.List.{list_all}
use Rattle.std.specs.String.{string_bytes}
use Rattle.c_names.specs.Names.{is_new_name}
use Rattle.cond_formula.specs.Features.{has}
use Rattle.command_projects.specs.Products.{on_by, is_named}

-- no name is empty, so no number but a feature's is that of one that is named
none_empty : (names : List (List ℕ)) → list_all is_new_name names ≡ true → is_named names [] ≡ false
none_empty [] h = refl
none_empty ([] ∷ names) h = absurd cc
none_empty ((b ∷ bs) ∷ names) h = none_empty names (tail_of (is_new_name (b ∷ bs)) (list_all is_new_name names) h)
  where
    tail_of : (x y : Bool) → (x && y) ≡ true → y ≡ true
    tail_of true y k = k
    tail_of false y k = cc

pub named_on : (features : List (String Global)) (names : List (List ℕ)) (values : List Bool) (c : List Bool) → list_all is_new_name names ≡ true → values ≡ map (is_named names) (map string_bytes features) → ((feature : ℕ) → feature < length features → has c feature ≡ slice_index_or values feature false) → ((feature : ℕ) → length features ≤ feature → has c feature ≡ false) → (number : ℕ) → has c number ≡ on_by (map string_bytes features) names number
named_on features names values c lawful are on off number =
    elim (cases_lt number (length features)) [
      | inl less ↦ on number less ∙ (ap (λ vs. slice_index_or vs number false) are ∙ get_or-map (is_named names) (map string_bytes features) number [] false (rw length-map less))
      | inr more ↦ off number more ∙ sym (ap (is_named names) (get_or_past (map string_bytes features) number [] (rw length-map more)) ∙ none_empty names lawful)
    ]
