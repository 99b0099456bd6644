-- Places in a list that grows.
use Rattle.std.proofs.Common.{◌≡◌, ℕ, ◌+◌, Bool, true, false, ◌||◌, List, [], ◌∷◌, ◌++◌, length, ⊎_elim, refl, sym, ap, subst, ◌∙◌, add-one}
use Rattle.std.specs.Prelude.{Option, Some, None, is_some, option_map, if◌then◌else◌}
use Rattle.std.specs.List.{list_any}
use Rattle.std.proofs.lemmas.Bool.{cases_Bool}
use Rattle.core_meaning.specs.Linking.{Linked, same_linked, place_where, added_once}
use Rattle.plain_numbers.specs.LinkedLaws.{same_is, same_itself, same_turned}
use Rattle.plain_numbers.specs.declared.places.Linked.{Linked as RustLinked}
use Rattle.plain_numbers.specs.PlainLinked.{plain_linked}

pub place_more_here : {A : Type 0} (test : A → Bool) (xs : List A) (y : A) → place_where test xs ≡ None → test y ≡ true → place_where test (xs ++ y ∷ []) ≡ Some (length xs)
place_more_here test [] y h t = rw t refl
place_more_here test (x ∷ xs) y h t =
    let parts = none_parts (test x) (place_where test xs) h in
    rw parts.0 (ap (option_map (λ n. n + 1)) (place_more_here test xs y parts.1 t) ∙ ap (λ n. Some n) (add-one (length xs)))
  where
    none_parts : (t : Bool) (o : Option ℕ) → (if t then Some 0 else option_map (λ n. n + 1) o) ≡ None → (t ≡ false) × (o ≡ None)
    none_parts true o e = absurd cc
    none_parts false (Some n) e = absurd cc
    none_parts false None e = (refl, refl)

pub place_more_other : {A : Type 0} (test : A → Bool) (xs : List A) (y : A) → test y ≡ false → place_where test (xs ++ y ∷ []) ≡ place_where test xs
place_more_other test [] y t = rw t refl
place_more_other test (x ∷ xs) y t = ap (λ o. if test x then Some 0 else option_map (λ n. n + 1) o) (place_more_other test xs y t)

pub any_place : {A : Type 0} (test : A → Bool) (xs : List A) → list_any test xs ≡ is_some (place_where test xs)
any_place test [] = refl
any_place test (x ∷ xs) = at (test x) (place_where test xs) (any_place test xs)
  where
    at : {a : Bool} (t : Bool) (o : Option ℕ) → a ≡ is_some o → (t || a) ≡ is_some (if t then Some 0 else option_map (λ n. n + 1) o)
    at true o h = refl
    at false (Some n) h = h
    at false None h = h

-- a name that is put at the end has the next place
pub placed_more : (E F : RustLinked → Option ℕ) (K : List Linked) (key : Linked) (place : ℕ) → ((x : RustLinked) → E x ≡ place_where (same_linked (plain_linked x)) K) → place_where (same_linked key) K ≡ None → place ≡ length K → ((x : RustLinked) → F x ≡ (if same_linked key (plain_linked x) then Some place else E x)) → (x : RustLinked) → F x ≡ place_where (same_linked (plain_linked x)) (K ++ key ∷ [])
placed_more E F K key place placed new is put x =
    put x ∙ ⊎_elim
    (λ (same : same_linked key (plain_linked x) ≡ true).
    let e : key ≡ plain_linked x = same_is key (plain_linked x) same in
    let none : place_where (same_linked (plain_linked x)) K ≡ None = subst (λ y. place_where (same_linked y) K ≡ None) e new in
    let here : same_linked (plain_linked x) key ≡ true = subst (λ y. same_linked y key ≡ true) e (same_itself key) in
    rw same (ap (λ n. Some n) is ∙ sym (place_more_here (same_linked (plain_linked x)) K key none here)))
    (λ (differs : same_linked key (plain_linked x) ≡ false).
    let apart : same_linked (plain_linked x) key ≡ false = same_turned key (plain_linked x) differs in
    rw differs (placed x ∙ sym (place_more_other (same_linked (plain_linked x)) K key apart)))
    (cases_Bool (same_linked key (plain_linked x)))

pub added_there : (K : List Linked) (x : Linked) (n : ℕ) → place_where (same_linked x) K ≡ Some n → added_once K x ≡ K
added_there K x n h = let there : list_any (same_linked x) K ≡ true = any_place (same_linked x) K ∙ ap is_some h in rw there refl

pub added_new : (K : List Linked) (x : Linked) → place_where (same_linked x) K ≡ None → added_once K x ≡ K ++ x ∷ []
added_new K x h = let new : list_any (same_linked x) K ≡ false = any_place (same_linked x) K ∙ ap is_some h in rw new refl
