-- The pairs of numbers below a bound for which a test is true.
use Rattle.std.proofs.Common.{arith, ◌≡◌, ℕ, zero, suc, ◌<◌, Bool, true, false, List, [], ◌∷◌, ◌++◌, ⊎_elim, refl, sym, subst, lit<}
use Rattle.std.specs.List.{All, Contains}
use Rattle.std.proofs.lemmas.Bool.{false≢true, cases_eq}
use Rattle.std.proofs.lemmas.List.Elements.{All-nil, All-cons, All-append, Contains-append_left, Contains-append_right}
use Rattle.c_types.specs.declared.pairs.Pair.{Pair}
use Rattle.c_types.specs.Compatible.{pair}

module _ (test : ℕ → ℕ → Bool) where
  abbrev one_pair : ℕ → ℕ → Bool → List Pair
  one_pair i j true = pair i j ∷ []
  one_pair i j false = []

  abbrev row_pairs : ℕ → ℕ → List Pair
  row_pairs i zero = []
  row_pairs i (suc n) = one_pair i n (test i n) ++ row_pairs i n

  abbrev pub pairs_where : ℕ → ℕ → List Pair
  pairs_where zero n = []
  pairs_where (suc m) n = row_pairs m n ++ pairs_where m n

  one_contained : (i j : ℕ) (b : Bool) → b ≡ true → Contains (one_pair i j b) (pair i j)
  one_contained i j true h = (0, lit< tt, refl)
  one_contained i j false h = absurd (false≢true h)

  row_contains : (i n j : ℕ) → j < n → test i j ≡ true → Contains (row_pairs i n) (pair i j)
  row_contains i zero j low h = absurd (omega (arith, low))
  row_contains i (suc n) j low h = ⊎_elim
      (λ e. Contains-append_left (one_pair i n (test i n)) (row_pairs i n) (pair i j)
      (subst (λ k. Contains (one_pair i n (test i n)) (pair i k)) (sym e) (one_contained i n (test i n) (subst (λ k. test i k ≡ true) e h))))
      (λ other. Contains-append_right (one_pair i n (test i n)) (row_pairs i n) (pair i j) (row_contains i n j (omega (arith, low, other)) h))
      (cases_eq j n)

  pub pairs_contain : (m n i j : ℕ) → i < m → j < n → test i j ≡ true → Contains (pairs_where m n) (pair i j)
  pairs_contain zero n i j low within h = absurd (omega (arith, low))
  pairs_contain (suc m) n i j low within h = ⊎_elim
      (λ e. Contains-append_left (row_pairs m n) (pairs_where m n) (pair i j)
      (subst (λ k. Contains (row_pairs m n) (pair k j)) (sym e) (row_contains m n j within (subst (λ k. test k j ≡ true) e h))))
      (λ other. Contains-append_right (row_pairs m n) (pairs_where m n) (pair i j) (pairs_contain m n i j (omega (arith, low, other)) within h))
      (cases_eq i m)

  module _ (P : Pair → Type 0) where
    one_holds : (i j : ℕ) (b : Bool) → (b ≡ true → P (pair i j)) → All P (one_pair i j b)
    one_holds i j true h = All-cons P (pair i j) [] (h refl) (All-nil P)
    one_holds i j false h = All-nil P

    row_holds : (i n : ℕ) → ((j : ℕ) → j < n → test i j ≡ true → P (pair i j)) → All P (row_pairs i n)
    row_holds i zero h = All-nil P
    row_holds i (suc n) h = All-append P (one_pair i n (test i n)) (row_pairs i n)
        (one_holds i n (test i n) (h n (omega arith)))
        (row_holds i n (λ j low. h j (omega (arith, low))))

    pub pairs_hold : (m n : ℕ) → ((i j : ℕ) → i < m → j < n → test i j ≡ true → P (pair i j)) → All P (pairs_where m n)
    pairs_hold zero n h = All-nil P
    pairs_hold (suc m) n h = All-append P (row_pairs m n) (pairs_where m n)
        (row_holds m n (λ j within. h m j (omega arith) within))
        (pairs_hold m n (λ i j low. h i j (omega (arith, low))))
