-- Lists of spellings that are compared one by one.
use Rattle.std.proofs.Common.{◌≡◌, ℕ, suc, false, List, [], ◌∷◌, length, refl, ap, arith}
use Rattle.std.proofs.lemmas.Grind.{common_steps}
use Rattle.c_text.specs.Preprocessing.{same_texts}

pub lengths_differ : (xs ys : List (List ℕ)) → (length xs ≡ length ys → ⊥) → same_texts xs ys ≡ false
lengths_differ [] [] h = absurd (h refl)
lengths_differ [] (y ∷ ys) h = refl
lengths_differ (x ∷ xs) [] h = refl
lengths_differ (x ∷ xs) (y ∷ ys) h =
    let e = lengths_differ xs ys (λ same. h (ap suc same)) in grind (arith, common_steps)
