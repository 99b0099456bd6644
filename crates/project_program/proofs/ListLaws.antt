-- Lists that are related element by element.
use Rattle.std.proofs.Common.{◌≡◌, ℕ, zero, suc, ◌+◌, ◌<◌, List, [], ◌∷◌, ◌++◌, length, take, map, get_or, sym, ap, arith, ◌∙◌}
use Rattle.std.proofs.lemmas.List.{take_more, map-append}
use Rattle.std.specs.List.{AllZip, Contains}

zipped_push : {A B : Type 0} (R : A → B → Type 0) (xs : List A) (ys : List B) (x : A) (y : B) → AllZip R xs ys → R x y → AllZip R (xs ++ x ∷ []) (ys ++ y ∷ [])
zipped_push R [] [] x y h r = (r, tt)
zipped_push R [] (b ∷ ys) x y h r = absurd h
zipped_push R (a ∷ xs) [] x y h r = absurd h
zipped_push R (a ∷ xs) (b ∷ ys) x y h r = (h.0, zipped_push R xs ys x y h.1 r)

front_more : {A : Type 0} (xs : List A) (i : ℕ) (x : A) → i < length xs → x ≡ get_or xs i x → take (i + 1) xs ≡ take i xs ++ x ∷ []
front_more xs i x inside is = take_more xs i x inside ∙ ap (λ z. take i xs ++ z ∷ []) (sym is)

-- one more pair
pub zipped_more : {A B : Type 0} (R : A → B → Type 0) (xs : List A) (ys all : List B) (i : ℕ) (x : A) (y : B) → i < length xs → x ≡ get_or xs i x → AllZip R (take i xs) ys → R x y → all ≡ ys ++ y ∷ [] → AllZip R (take (i + 1) xs) all
zipped_more R xs ys all i x y inside is h r e = rw (front_more xs i x inside is, e) (zipped_push R (take i xs) ys x y h r)

pub zipped_views : {A B C : Type 0} (R : B → C → Type 0) (f : A → B) (xs : List A) (ys all : List C) (i : ℕ) (x : A) (y : C) → i < length xs → x ≡ get_or xs i x → AllZip R (map f (take i xs)) ys → R (f x) y → all ≡ ys ++ y ∷ [] → AllZip R (map f (take (i + 1) xs)) all
zipped_views R f xs ys all i x y inside is h r e =
    let front : map f (take (i + 1) xs) ≡ map f (take i xs) ++ f x ∷ [] = ap (map f) (front_more xs i x inside is) ∙ map-append f (take i xs) (x ∷ []) in
    rw (front, e) (zipped_push R (map f (take i xs)) ys (f x) y h r)

pub contains_view : {A B : Type 0} (f : A → B) (xs : List A) (i : ℕ) (x : A) → i < length xs → x ≡ get_or xs i x → Contains (map f xs) (f x)
contains_view f [] i x inside is = absurd (omega arith)
contains_view f (y ∷ ys) zero x inside is = (0, omega arith, ap f (sym is))
contains_view f (y ∷ ys) (suc i) x inside is =
    let h = contains_view f ys i x (omega arith) is in (suc h.0, omega (arith, h.1), h.2)
