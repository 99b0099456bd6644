-- The folder of a path, and a list without its ends.
use Rattle.std.proofs.Common.{Option, Some, None, MatchOption, ◌≡◌, ℕ, zero, suc, ◌+◌, ◌-◌, List, [], ◌∷◌, ◌++◌, map, take, drop, length, refl, ap, sym, ◌∙◌, arith}
use Rattle.std.specs.Option.{option_to_list}
use Rattle.std.proofs.lemmas.List.{take-map, length-map, map-append, nil_from_length}
use Rattle.c_text.specs.Preprocessing.{folder}

pub folder-push : (parts : List (List ℕ)) (last : List ℕ) → folder (parts ++ last ∷ []) ≡ parts
folder-push [] last = refl
folder-push (a ∷ []) last = refl
folder-push (a ∷ b ∷ parts) last = ap (λ ps. a ∷ ps) (folder-push (b ∷ parts) last)

pub map-middle : {X Y : Type 0} (f : X → Y) (xs : List X) → map f (take (length xs - 1 - 1) (drop 1 xs)) ≡ take (length (map f xs) - 2) (drop 1 (map f xs))
map-middle f [] = refl
map-middle {X} {Y} f (x ∷ xs) =
    let e : length (x ∷ xs) - 1 - 1 ≡ length (map f (x ∷ xs)) - 2 = omega (arith, length-map {A = X} xs f) in
    sym (take-map f (length (x ∷ xs) - 1 - 1) xs) ∙ ap (λ n. take n (map f xs)) e

pub folder-left : {X : Type 0} (f : X → List ℕ) (xs ys : List X) (o : Option X) (k n : ℕ) → xs ≡ ys ++ option_to_list o → length ys ≡ n → MatchOption o ((k ≡ 0) × (n ≡ 0)) (λ x. n + 1 ≡ k) → map f ys ≡ folder (map f xs)
folder-left f xs ys (Some x) k n e l h = sym (ap (λ zs. folder (map f zs)) e ∙ ap folder (map-append f ys (x ∷ [])) ∙ folder-push (map f ys) (f x))
folder-left f xs ys None k n e l h =
    let is_nil : ys ≡ [] = nil_from_length ys (l ∙ h.1) in
    rw (e, is_nil)

pub map-drop : {X Y : Type 0} (f : X → Y) (n : ℕ) (xs : List X) → map f (drop n xs) ≡ drop n (map f xs)
map-drop f zero xs = refl
map-drop f (suc n) [] = refl
map-drop f (suc n) (x ∷ xs) = map-drop f n xs
