-- Walks along lists, one element more at a time.
use Rattle.std.proofs.Common.{◌≡◌, ℕ, ◌+◌, ◌<◌, ◌≤◌, Bool, true, false, ◌&&◌, ◌||◌, List, [], ◌∷◌, length, get_or, drop, map, refl, sym, ap, ap₂, ◌∙◌}
use Rattle.std.specs.List.{list_any}
use Rattle.std.proofs.lemmas.List.{drop_all}
use Rattle.conditional.proofs.ListLaws.{item_of}
use Rattle.link_faults.proofs.Loops.{or_assoc, or_none}

module _ {T : Type 0} (p : T → Bool) (xs : List T) (all : Bool) where
  pub any_step : (x : T) (i : ℕ) (before after : Bool) → i < length xs → x ≡ get_or xs i x → after ≡ (before || p x)
      → (before || list_any p (drop i xs)) ≡ all → (after || list_any p (drop (i + 1) xs)) ≡ all
  any_step x i before after within is now then_ =
      ap (λ b. b || list_any p (drop (i + 1) xs)) now ∙ or_assoc before (p x) (list_any p (drop (i + 1) xs))
      ∙ ap (λ ys. before || list_any p ys) (sym (item_of xs x i within is)) ∙ then_

  pub any_end : (i : ℕ) (b : Bool) → length xs ≤ i → (b || list_any p (drop i xs)) ≡ all → b ≡ all
  any_end i b past so_far = sym (or_none b) ∙ ap (λ ys. b || list_any p ys) (sym (drop_all i xs past)) ∙ so_far

pub any_same : {T : Type 0} (p q : T → Bool) → ((x : T) → p x ≡ q x) → (xs : List T) → list_any p xs ≡ list_any q xs
any_same p q same [] = refl
any_same p q same (x ∷ xs) = ap₂ (λ (a b : Bool). a || b) (same x) (any_same p q same xs)

pub any_map : {T S : Type 0} (p : S → Bool) (f : T → S) (xs : List T) → list_any p (map f xs) ≡ list_any (λ x. p (f x)) xs
any_map p f [] = refl
any_map p f (x ∷ xs) = ap (λ b. p (f x) || b) (any_map p f xs)

both_or : (k a b : Bool) → ((k && a) || (k && b)) ≡ (k && (a || b))
both_or true a b = refl
both_or false a b = refl

nowhere : (k : Bool) → false ≡ (k && false)
nowhere true = refl
nowhere false = refl

pub any_both : {T : Type 0} (k : Bool) (p : T → Bool) (xs : List T) → list_any (λ x. k && p x) xs ≡ (k && list_any p xs)
any_both k p [] = nowhere k
any_both k p (x ∷ xs) = ap (λ b. (k && p x) || b) (any_both k p xs) ∙ both_or k (p x) (list_any p xs)
