-- The names of a set of byte vectors.
use Rattle.std.proofs.Common.{◌≡◌, ℕ, Bool, true, false, ◌||◌, List, [], ◌∷◌, ◌++◌, map, refl, ap, ◌∙◌}
use Rattle.std.proofs.lemmas.List.{map-append}
use Rattle.std.specs.Prelude.{if◌then◌else◌}
use Rattle.std.specs.List.{list_any}
use Rattle.std.specs.Str.{bytes_eq}
use Rattle.quick_parser.specs.Steps.{with_test}

pub list_any-map :
    {X Y : Type 0} (p : Y → Bool) (f : X → Y) (xs : List X) → list_any p (map f xs) ≡ list_any (λ x. p (f x)) xs
list_any-map p f [] = refl
list_any-map p f (x ∷ xs) = ap (λ b. p (f x) || b) (list_any-map p f xs)

map-if : {X Y : Type 0} (f : X → Y) (b : Bool) (xs ys : List X) → map f (if b then xs else ys) ≡ (if b then map f xs else map f ys)
map-if f true xs ys = refl
map-if f false xs ys = refl

-- a vector more is a name more
pub with_test-map :
    {X : Type 0} (f : X → List ℕ) (xs : List X) (x : X)
    → map f (if list_any (λ y. bytes_eq (f x) (f y)) xs then xs else xs ++ x ∷ []) ≡ with_test (map f xs) (f x)
with_test-map f xs x =
    map-if f (list_any (λ y. bytes_eq (f x) (f y)) xs) xs (xs ++ x ∷ [])
    ∙ rw (list_any-map (bytes_eq (f x)) f xs, map-append f xs (x ∷ [])) refl
