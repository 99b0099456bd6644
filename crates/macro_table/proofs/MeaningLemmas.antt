-- Lists of spellings that are compared one by one.
use Rattle.std.proofs.Common.{◌≡◌, ℕ, suc, Bool, true, false, ◌&&◌, List, [], ◌∷◌, length, refl, ap, ◌∙◌, arith}
use Rattle.std.proofs.lemmas.Grind.{common_steps}
use Rattle.std.specs.Cmp.Lexicographic.{bytes_decides}
use Rattle.std.specs.Str.{bytes_eq}
use Rattle.c_text.specs.Preprocessing.{same_texts}

pub lengths_differ : (xs ys : List (List ℕ)) → (length xs ≡ length ys → ⊥) → same_texts xs ys ≡ false
lengths_differ [] [] h = absurd (h refl)
lengths_differ [] (y ∷ ys) h = refl
lengths_differ (x ∷ xs) [] h = refl
lengths_differ (x ∷ xs) (y ∷ ys) h =
    let e = lengths_differ xs ys (λ same. h (ap suc same)) in grind (arith, common_steps)

pub same_texts_are : (xs ys : List (List ℕ)) → same_texts xs ys ≡ true → xs ≡ ys
same_texts_are [] [] same = refl
same_texts_are [] (y ∷ ys) same = cc
same_texts_are (x ∷ xs) [] same = cc
same_texts_are (x ∷ xs) (y ∷ ys) same =
    let both = both_true (bytes_eq x y) (same_texts xs ys) same in
    ap (λ (z : List ℕ). z ∷ xs) ((bytes_decides x y).0 both.0) ∙ ap (λ (zs : List (List ℕ)). y ∷ zs) (same_texts_are xs ys both.1)
  where
    both_true : (a b : Bool) → (a && b) ≡ true → (a ≡ true) × (b ≡ true)
    both_true true b h = (refl, h)
    both_true false b h = cc
