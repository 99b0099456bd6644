-- Lines joined by newlines, one after another.
use Rattle.std.proofs.Common.{◌≡◌, ℕ, ◌==◌, Bool, cond, List, [], ◌∷◌, ◌++◌, length, map, refl, sym, ap, ◌∙◌, append_assoc, arith}
use Rattle.std.specs.List.{join_with_byte}
use Rattle.std.proofs.lemmas.Bool.{cond-true, cond-false, ne_eqb}
use Rattle.std.proofs.lemmas.List.{map_push}

join_with_byte-push : (c : ℕ) (x : List ℕ) (xs : List (List ℕ)) (y : List ℕ) → join_with_byte c ((x ∷ xs) ++ y ∷ []) ≡ (join_with_byte c (x ∷ xs) ++ c ∷ []) ++ y
join_with_byte-push c x [] y = sym (append_assoc x (c ∷ []) y)
join_with_byte-push c x (z ∷ xs) y =
    let inner = join_with_byte c (z ∷ xs) in
    ap (λ bs. x ++ (c ∷ bs)) (join_with_byte-push c z xs y)
    ∙ sym (ap (λ bs. bs ++ y) (append_assoc x (c ∷ inner) (c ∷ [])) ∙ append_assoc x (c ∷ (inner ++ c ∷ [])) y)

-- one more piece, behind a newline if it isn't the first
pub joined_more : {X : Type 0} (f : X → List ℕ) (xs : List X) (x : X) (is_first : Bool) (out after : List ℕ) → is_first ≡ (length xs == 0) → out ≡ join_with_byte 10 (map f xs) → after ≡ cond is_first out (out ++ 10 ∷ []) ++ f x → after ≡ join_with_byte 10 (map f (xs ++ x ∷ []))
joined_more f [] x is_first out after first so_far now =
    now ∙ ap (λ bs. bs ++ f x) (cond-true is_first out (out ++ 10 ∷ []) first ∙ so_far)
joined_more f (y ∷ ys) x is_first out after first so_far now =
    let later = first ∙ ne_eqb (length (y ∷ ys)) 0 (λ e. absurd (omega (arith, e))) in
    now ∙ ap (λ bs. bs ++ f x) (cond-false is_first out (out ++ 10 ∷ []) later ∙ ap (λ bs. bs ++ 10 ∷ []) so_far)
    ∙ sym (ap (join_with_byte 10) (map_push f (y ∷ ys) x) ∙ join_with_byte-push 10 (f y) (map f ys) (f x))

pub map-now : {X : Type 0} (f : List ℕ → List ℕ) (now : X → List ℕ) (xs : List X) → map (λ x. f (now x)) xs ≡ map f (map now xs)
map-now f now [] = refl
map-now f now (x ∷ xs) = ap (λ ys. f (now x) ∷ ys) (map-now f now xs)
