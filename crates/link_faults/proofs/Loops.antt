-- Loops over lists, one element more at a time.
use Rattle.std.proofs.Common.{◌≡◌, ℕ, ◌+◌, ◌<◌, ◌≤◌, Bool, true, false, ◌||◌, List, [], ◌∷◌, length, get_or, drop, refl, sym, ap, subst, ◌∙◌, arith}
use Rattle.std.proofs.lemmas.List.{drop_all}
use Rattle.conditional.proofs.ListLaws.{item_of}
use Rattle.link_faults.specs.declared.several.Several.{Several}
use Rattle.link_faults.specs.Several.{Count}
use Rattle.link_faults.specs.Measures.{SoFar}

pub or_assoc : (a b c : Bool) → ((a || b) || c) ≡ (a || (b || c))
or_assoc true b c = refl
or_assoc false b c = refl

pub or_none : (a : Bool) → (a || false) ≡ a
or_none true = refl
or_none false = refl

module _ {T : Type 0} (m : List T → Bool) (xs : List T) where
  pub or_step : (x : T) (i : ℕ) (before after : Bool) → m (x ∷ drop (i + 1) xs) ≡ (m (x ∷ []) || m (drop (i + 1) xs)) → i < length xs → x ≡ get_or xs i x
      → after ≡ (before || m (x ∷ [])) → (before || m (drop i xs)) ≡ m xs → (after || m (drop (i + 1) xs)) ≡ m xs
  or_step x i before after split within is now then_ =
      ap (λ b. b || m (drop (i + 1) xs)) now ∙ or_assoc before (m (x ∷ [])) (m (drop (i + 1) xs))
      ∙ ap (λ b. before || b) (sym split) ∙ ap (λ ys. before || m ys) (sym (item_of xs x i within is)) ∙ then_

  pub or_end : (i : ℕ) (b : Bool) → m [] ≡ false → length xs ≤ i → (b || m (drop i xs)) ≡ m xs → b ≡ m xs
  or_end i b none past so_far =
      sym (or_none b) ∙ ap (λ a. b || a) (sym none) ∙ ap (λ ys. b || m ys) (sym (drop_all i xs past)) ∙ so_far

module _ {T : Type 0} (on : ℕ → Bool) (m : List T → ℕ) (xs : List T) where
  pub sum_step : (x : T) (i : ℕ) (s t : Several) → m (x ∷ drop (i + 1) xs) ≡ m (x ∷ []) + m (drop (i + 1) xs) → i < length xs → x ≡ get_or xs i x
      → ((n : ℕ) → Count on s n → Count on t (n + m (x ∷ []))) → SoFar on s (m (drop i xs)) (m xs) → SoFar on t (m (drop (i + 1) xs)) (m xs)
  sum_step x i s t split within is more h =
      let e : m (drop i xs) ≡ m (x ∷ []) + m (drop (i + 1) xs) = ap m (item_of xs x i within is) ∙ split in
      let sum : h.before + m (drop i xs) ≡ m xs = h.sum in
      record { before = h.before + m (x ∷ []); counted = more h.before h.counted; sum = omega (arith, e, sum) }

  pub sum_end : (i : ℕ) (s : Several) → m [] ≡ 0 → length xs ≤ i → SoFar on s (m (drop i xs)) (m xs) → Count on s (m xs)
  sum_end i s none past h =
      let e : m (drop i xs) ≡ 0 = ap m (drop_all i xs past) ∙ none in
      let sum : h.before + m (drop i xs) ≡ m xs = h.sum in
      subst (Count on s) (omega (arith, e, sum)) h.counted
