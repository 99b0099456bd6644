-- Facts on digits and tables of words.
use Rattle.std.proofs.Common.{◌≡◌, ℕ, ◌+◌, ◌*◌, ◌<◌, ◌≤◌, Bool, ◌||◌, List, [], ◌∷◌, map, refl, ap, arith}
use Rattle.std.specs.List.{list_any}
use Rattle.std.proofs.Math.Nat.{mul-le-mul_left}
use Rattle.c_text.specs.Constants.{digit_value, digits_from}

-- further digits make a number no smaller
pub digits_from-ge : (base n : ℕ) (ds : List ℕ) → 0 < base → n ≤ digits_from base n ds
digits_from-ge base n [] pos = omega arith
digits_from-ge base n (d ∷ ds) pos =
    let one : 1 ≤ base = omega arith in
    let h = digits_from-ge base (base * n + digit_value d) ds pos in
    omega (arith, h, mul-le-mul_left n one)

pub list_any-map : {X Y : Type 0} (p : Y → Bool) (f : X → Y) (xs : List X) → list_any (λ x. p (f x)) xs ≡ list_any p (map f xs)
list_any-map p f [] = refl
list_any-map p f (x ∷ xs) = ap (λ t. p (f x) || t) (list_any-map p f xs)
