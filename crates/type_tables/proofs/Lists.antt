-- Lists of which one entry changes.
use Rattle.std.proofs.Common.{arith, ◌≡◌, ◌<◌, ℕ, zero, suc, List, [], ◌∷◌, length, refl, ap, subst, slice_index_or, slice_set}
use Rattle.std.specs.Prelude.{Some, slice_get}
use Rattle.type_tables.specs.Changes.{BecomesAt}

pub index_found : {A : Type 0} (xs : List A) (i : ℕ) (d x : A) → slice_get xs i ≡ Some x → slice_index_or xs i d ≡ x
index_found [] i d x h = absurd cc
index_found (y ∷ xs) zero d x h = cc
index_found (y ∷ xs) (suc i) d x h = index_found xs i d x h

pub becomes_at : {A : Type 0} (P : A → A → Type 0) (xs : List A) (i : ℕ) (d now : A) → P (slice_index_or xs i d) now → BecomesAt P i xs (slice_set xs i now)
becomes_at P xs i d now h = record {
  now = now;
  set_is = refl;
  changed = λ before e. subst (λ x. P x now) (index_found xs i d before e) h;
}

pub set_there : {A : Type 0} (xs : List A) (i : ℕ) (before now : A) → slice_get xs i ≡ Some before → slice_get (slice_set xs i now) i ≡ Some now
set_there [] i before now h = absurd cc
set_there (y ∷ xs) zero before now h = refl
set_there (y ∷ xs) (suc i) before now h = set_there xs i before now h

pub set_other : {A : Type 0} (xs : List A) (i n : ℕ) (now : A) → (n ≡ i → ⊥) → slice_get (slice_set xs i now) n ≡ slice_get xs n
set_other [] i n now h = refl
set_other (y ∷ xs) zero zero now h = absurd (h refl)
set_other (y ∷ xs) zero (suc n) now h = refl
set_other (y ∷ xs) (suc i) zero now h = refl
set_other (y ∷ xs) (suc i) (suc n) now h = set_other xs i n now (λ e. h (ap suc e))

pub there_is : {A : Type 0} (xs : List A) (i : ℕ) → i < length xs → (x : A) × (slice_get xs i ≡ Some x)
there_is [] i h = absurd (omega (arith, h))
there_is (x ∷ xs) zero h = (x, refl)
there_is (x ∷ xs) (suc i) h = there_is xs i (omega (arith, h))
