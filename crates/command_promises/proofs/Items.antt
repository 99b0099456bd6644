-- Lists of few items, by their items.
use Rattle.std.proofs.Common.{◌≡◌, ◌<◌, ◌≤◌, List, [], ◌∷◌, length, get_or, arith}

pub one_item : {X : Type 0} (xs : List X) (a : X) → 1 ≤ length xs → length xs < 2 → a ≡ get_or xs 0 a → xs ≡ a ∷ []
one_item [] a low high p = absurd (omega arith)
one_item (v ∷ []) a low high p = cc
one_item (v ∷ w ∷ xs) a low high p = absurd (omega arith)

pub three_items : {X : Type 0} (xs : List X) (a b c : X) → 3 ≤ length xs → length xs < 4 → a ≡ get_or xs 0 a → b ≡ get_or xs 1 b → c ≡ get_or xs 2 c → xs ≡ a ∷ b ∷ c ∷ []
three_items [] a b c low high p q r = absurd (omega arith)
three_items (v ∷ []) a b c low high p q r = absurd (omega arith)
three_items (v ∷ w ∷ []) a b c low high p q r = absurd (omega arith)
three_items (v ∷ w ∷ x ∷ []) a b c low high p q r = cc
three_items (v ∷ w ∷ x ∷ y ∷ xs) a b c low high p q r = absurd (omega arith)

pub four_items : {X : Type 0} (xs : List X) (a b c d : X) → 4 ≤ length xs → length xs < 5 → a ≡ get_or xs 0 a → b ≡ get_or xs 1 b → c ≡ get_or xs 2 c → d ≡ get_or xs 3 d → xs ≡ a ∷ b ∷ c ∷ d ∷ []
four_items [] a b c d low high p q r s = absurd (omega arith)
four_items (v ∷ []) a b c d low high p q r s = absurd (omega arith)
four_items (v ∷ w ∷ []) a b c d low high p q r s = absurd (omega arith)
four_items (v ∷ w ∷ x ∷ []) a b c d low high p q r s = absurd (omega arith)
four_items (v ∷ w ∷ x ∷ y ∷ []) a b c d low high p q r s = cc
four_items (v ∷ w ∷ x ∷ y ∷ z ∷ xs) a b c d low high p q r s = absurd (omega arith)
