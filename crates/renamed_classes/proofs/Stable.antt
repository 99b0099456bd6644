-- Numbers, and what is made of numbers, are equal if they can't differ.
use Rattle.std.proofs.Common.{◌≡◌, ℕ, zero, suc, ◌<◌, ◌≤◌, List, [], ◌∷◌, Option, Some, None, map, refl, ap, ap₂, sym, ◌∙◌, inl, inr, arith}
use Rattle.std.specs.Prelude.{◌⊎◌}
use Rattle.std.proofs.lemmas.Bool.{cases_lt}
use Rattle.core_meaning.specs.declared.program.BuiltIn.{BuiltIn}
use Rattle.core_meaning.specs.declared.program.BuiltIn.TheVariants.{Putchar, Getchar, Puts, Exit}
use Rattle.program_occurrences.specs.Links.{BoundNumber, bound_numbers, Link, links_of}
use Rattle.renamed_classes.specs.Laws.{BoundAlikeOrNot}

record IsStable (A : Type 0) : Type 0 where
  same : (x y : A) → ((x ≡ y → ⊥) → ⊥) → x ≡ y

number-stable : IsStable ℕ
number-stable = record { same = λ x y h. by-order x y h (cases_lt x y) (cases_lt y x) }
  where
    by-order : (x y : ℕ) → ((x ≡ y → ⊥) → ⊥) → (x < y) ⊎ (y ≤ x) → (y < x) ⊎ (x ≤ y) → x ≡ y
    by-order x y h (inl less) other = absurd (h (λ e. let same : ◌≡◌ {A = ℕ} x y = e in absurd (omega (arith, less, same))))
    by-order x y h (inr some) (inl less) = absurd (h (λ e. let same : ◌≡◌ {A = ℕ} x y = e in absurd (omega (arith, less, same))))
    by-order x y h (inr some) (inr most) = omega (arith, some, most)

-- what is told by what is stable
stable-by : {A B : Type 0} (f : A → B) (g : B → A) → ((x : A) → g (f x) ≡ x) → IsStable B → IsStable A
stable-by f g back s = record {
  same = λ x y h. sym (back x) ∙ (ap g (s.same (f x) (f y) (λ no. h (λ e. no (ap f e)))) ∙ back y);
}

head-same : {A : Type 0} (x y : A) (xs ys : List A) → x ∷ xs ≡ y ∷ ys → x ≡ y
head-same x y xs ys e = cc

tail-same : {A : Type 0} (x y : A) (xs ys : List A) → x ∷ xs ≡ y ∷ ys → xs ≡ ys
tail-same x y xs ys e = cc

list-same : {A : Type 0} → IsStable A → (xs ys : List A) → ((xs ≡ ys → ⊥) → ⊥) → xs ≡ ys
list-same s [] [] h = refl
list-same s [] (y ∷ ys) h = absurd (h (λ e. cc))
list-same s (x ∷ xs) [] h = absurd (h (λ e. cc))
list-same s (x ∷ xs) (y ∷ ys) h =
    ap₂ (λ z zs. z ∷ zs) (s.same x y (λ no. h (λ e. no (head-same x y xs ys e)))) (list-same s xs ys (λ no. h (λ e. no (tail-same x y xs ys e))))

list-stable : {A : Type 0} → IsStable A → IsStable (List A)
list-stable s = record { same = list-same s }

-- ---- what is bound

abbrev bound-code : BoundNumber → List ℕ
bound-code b = b.identifier ∷ b.declared_by ∷ []

abbrev bound-of : List ℕ → BoundNumber
bound-of (a ∷ b ∷ rest) = record { identifier = a; declared_by = b }
bound-of other = record { identifier = 0; declared_by = 0 }

bound-stable : IsStable BoundNumber
bound-stable = stable-by bound-code bound-of (λ b. refl) (list-stable number-stable)

-- ---- what is linked

abbrev built-in-code : Option BuiltIn → ℕ
built-in-code None = 0
built-in-code (Some Putchar) = 1
built-in-code (Some Getchar) = 2
built-in-code (Some Puts) = 3
built-in-code (Some Exit) = 4

abbrev built-in-at : List (Option BuiltIn) → ℕ → Option BuiltIn
built-in-at [] n = None
built-in-at (b ∷ rest) zero = b
built-in-at (b ∷ rest) (suc n) = built-in-at rest n

abbrev all-built-in : List (Option BuiltIn)
all-built-in = None ∷ Some Putchar ∷ Some Getchar ∷ Some Puts ∷ Some Exit ∷ []

built-in-back : (b : Option BuiltIn) → built-in-at all-built-in (built-in-code b) ≡ b
built-in-back None = refl
built-in-back (Some Putchar) = refl
built-in-back (Some Getchar) = refl
built-in-back (Some Puts) = refl
built-in-back (Some Exit) = refl

abbrev link-code : Link → List ℕ
link-code l = l.unit ∷ l.number ∷ l.first_unit ∷ l.first_number ∷ built-in-code l.built_in ∷ []

abbrev no-link : Link
no-link = record { unit = 0; number = 0; first_unit = 0; first_number = 0; built_in = None }

abbrev link-of : List ℕ → Link
link-of (a ∷ b ∷ c ∷ d ∷ e ∷ rest) = record { unit = a; number = b; first_unit = c; first_number = d; built_in = built-in-at all-built-in e }
link-of other = no-link

link-stable : IsStable Link
link-stable =
    stable-by link-code link-of
    (λ l. ap (λ (b : Option BuiltIn). let k : Link = record { unit = l.unit; number = l.number; first_unit = l.first_unit; first_number = l.first_number; built_in = b } in k) (built-in-back l.built_in))
    (list-stable number-stable)

pub bound-alike : BoundAlikeOrNot
bound-alike before after h = record {
  bound = list-same (list-stable bound-stable) (map bound_numbers before) (map bound_numbers after) (λ no. h (λ is. no is.bound));
  linked = list-same link-stable (links_of before) (links_of after) (λ no. h (λ is. no is.linked));
}
