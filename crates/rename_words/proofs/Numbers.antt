-- The first place at which a test passes, in a list that is put together of two.
use Rattle.std.proofs.Common.{◌≡◌, ℕ, ◌+◌, Bool, true, false, List, [], ◌∷◌, ◌++◌, length, Option, Some, None, is_some, position, refl, sym, ◌∙◌, ap, arith}
use Rattle.std.proofs.lemmas.Iterator.Adapters.{position_from-zero}
use Rattle.std.specs.List.{list_any, position_from}
use Rattle.std.specs.Option.{option_map}

module _ {X : Type 0} (test : X → Bool) where
  pub any_has_position : (n : ℕ) (xs : List X) → is_some (position_from test n xs) ≡ list_any test xs
  any_has_position n [] = refl
  any_has_position n (x ∷ xs) = by (test x) refl (any_has_position (n + 1) xs)
    where
      by : (b : Bool) → test x ≡ b → is_some (position_from test (n + 1) xs) ≡ list_any test xs → is_some (position_from test n (x ∷ xs)) ≡ list_any test (x ∷ xs)
      by true e rest = rw e refl
      by false e rest = rw e rest

  pub found_first : (n : ℕ) (xs ys : List X) (i : ℕ) → position_from test n xs ≡ Some i → position_from test n (xs ++ ys) ≡ Some i
  found_first n [] ys i e = cc
  found_first n (x ∷ xs) ys i e = by (test x) refl (found_first (n + 1) xs ys i)
    where
      by : (b : Bool) → test x ≡ b → (position_from test (n + 1) xs ≡ Some i → position_from test (n + 1) (xs ++ ys) ≡ Some i) → position_from test n (x ∷ (xs ++ ys)) ≡ Some i
      by true t rest = rw t (rw t at e)
      by false t rest = rw t (rest (rw t at e))

  pub found_later : (n : ℕ) (xs ys : List X) → position_from test n xs ≡ None → position_from test n (xs ++ ys) ≡ position_from test (n + length xs) ys
  found_later n [] ys e = let k : n + 0 ≡ n = omega arith in ap (λ m. position_from test m ys) (sym k)
  found_later n (x ∷ xs) ys e = by (test x) refl (found_later (n + 1) xs ys)
    where
      by : (b : Bool) → test x ≡ b → (position_from test (n + 1) xs ≡ None → position_from test (n + 1) (xs ++ ys) ≡ position_from test (n + 1 + length xs) ys) → position_from test n (x ∷ (xs ++ ys)) ≡ position_from test (n + length (x ∷ xs)) ys
      by true t rest = let f : ◌≡◌ {A = Option ℕ} (Some n) None = rw t at e in absurd cc
      by false t rest =
          let k : n + 1 + length xs ≡ n + length (x ∷ xs) = omega arith in
          let later : position_from test (n + 1) (xs ++ ys) ≡ position_from test (n + 1 + length xs) ys = rest (rw t at e) in
          rw t (later ∙ ap (λ m. position_from test m ys) k)

  pub counted_from : (k n : ℕ) (xs : List X) → position_from test (k + n) xs ≡ option_map (λ i. k + i) (position_from test n xs)
  counted_from k n [] = refl
  counted_from k n (x ∷ xs) = by (test x) refl (counted_from k (n + 1) xs)
    where
      by : (b : Bool) → test x ≡ b → position_from test (k + (n + 1)) xs ≡ option_map (λ i. k + i) (position_from test (n + 1) xs) → position_from test (k + n) (x ∷ xs) ≡ option_map (λ i. k + i) (position_from test n (x ∷ xs))
      by true t rest = rw t refl
      by false t rest =
          let e : k + n + 1 ≡ k + (n + 1) = omega arith in
          rw t (ap (λ m. position_from test m xs) e ∙ rest)

-- the place in both, by the places in each
module _ {X : Type 0} (test : X → Bool) (xs ys : List X) where
  pub position_in_first : (i : ℕ) → Some i ≡ position_from test 0 xs → Some i ≡ position test (xs ++ ys)
  position_in_first i h = sym (found_first test 0 xs ys i (sym h)) ∙ sym (position_from-zero test (xs ++ ys))

  pub position_in_second : (found : Option ℕ) → None ≡ position_from test 0 xs → found ≡ position_from test 0 ys → option_map (λ i. length xs + i) found ≡ position test (xs ++ ys)
  position_in_second found none h =
      let k : length xs + 0 ≡ length xs = omega arith in
      let z : length xs ≡ 0 + length xs = omega arith in
      ap (option_map (λ i. length xs + i)) h ∙ (sym (counted_from test (length xs) 0 ys) ∙ (ap (λ m. position_from test m ys) k
      ∙ (ap (λ m. position_from test m ys) z ∙ (sym (found_later test 0 xs ys (sym none)) ∙ sym (position_from-zero test (xs ++ ys))))))
