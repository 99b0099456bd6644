-- The stack of what waits, as a list.
use Rattle.std.proofs.Common.{◌≡◌, ◌==◌, ◌+◌, ◌<◌, ℕ, suc, get_or, drop, add-one, Bool, false, List, [], ◌∷◌, ◌++◌, Some, None, length, map, reverse, ap, ◌∙◌, refl, sym, arith}
use Rattle.std.specs.Prelude.{if◌then◌else◌, option_and_then}
use Rattle.std.proofs.lemmas.List.{map-append, reverse-append}
use Rattle.std.proofs.lemmas.Bool.Decides.{nat_tests}
use Rattle.feature_model.specs.Reading.{Algebra, Sides, Wanting, Reading, has, finished, whole, next, read}
use Rattle.feature_model.specs.Tokens.{Token}
use Rattle.std.proofs.Math.Seq.{drop-cons}

-- the last one of a stack is the innermost
pub reverse_last :
    {X Y : Type 0} (f : X → Y) (xs ys : List X) (y : X) → xs ≡ ys ++ y ∷ []
    → reverse (map f xs) ≡ f y ∷ reverse (map f ys)
reverse_last f xs ys y e =
    ap (λ l. reverse (map f l)) e ∙ ap reverse (map-append f ys (y ∷ [])) ∙ reverse-append (map f ys) (f y ∷ [])

-- whether a stack is empty
finished_last :
    {A N : Type 0} (R : Algebra A N) (s : Sides A) (c : A) (ws : List (Wanting A N)) (w : Wanting A N)
    → finished R (has s c) (ws ++ w ∷ []) ≡ None
finished_last R s c [] w = refl
finished_last R s c (v ∷ ws) w = refl

pub finished_if :
    {A N X : Type 0} (R : Algebra A N) (s : Sides A) (c : A) (f : X → Wanting A N) (xs : List X) (b : Bool)
    → b ≡ (length xs == 0)
    → (if b then Some (whole R s c) else None) ≡ finished R (has s c) (reverse (map f xs))
finished_if R s c f [] b e = rw e refl
finished_if R s c f (x ∷ xs) b e =
    let g : b ≡ false = e ∙ suc_zero (length xs) in
    rw (g, reverse-append (f x ∷ []) (map f xs)) (sym (finished_last R s c (reverse (map f xs)) (f x)))
  where
    suc_zero : (n : ℕ) → (suc n == 0) ≡ false
    suc_zero n = grind (arith, nat_tests)

-- one token more
pub read_more :
    {A N : Type 0} (R : Algebra A N) (r q : Reading A N) (token : Token) (rest : List Token)
    → Some q ≡ next R r.place r.outer token → read R q rest ≡ read R r (token ∷ rest)
read_more R r q token rest e = ap (option_and_then (λ p. read R p rest)) e

pub read_next :
    {A N X : Type 0} (R : Algebra A N) (r q : Reading A N) (f : X → Token) (xs : List X) (i : ℕ) (x : X)
    → i < length xs → x ≡ get_or xs i x → Some q ≡ next R r.place r.outer (f x)
    → read R q (map f (drop (i + 1) xs)) ≡ read R r (map f (drop i xs))
read_next R r q f xs i x h g e =
    let d : drop i xs ≡ x ∷ drop (suc i) xs = drop-cons xs i x h ∙ ap (λ y. y ∷ drop (suc i) xs) (sym g) in
    rw (add-one, d) (read_more R r q (f x) (map f (drop (suc i) xs)) e)
