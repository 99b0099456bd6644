-- Sums of numbers below a bound, and how many pairs of numbers pass a test.
use Rattle.std.proofs.Common.{arith, ◌≡◌, ℕ, zero, suc, ◌+◌, ◌*◌, ◌<◌, ◌≤◌, Bool, true, false, refl, sym, subst, ⊎_elim}
use Rattle.std.proofs.lemmas.Bool.{false≢true, cases_eq}

abbrev total : (ℕ → ℕ) → ℕ → ℕ
total f zero = 0
total f (suc n) = f n + total f n

total_most : (f : ℕ → ℕ) (b n : ℕ) → ((k : ℕ) → k < n → f k ≤ b) → total f n ≤ n * b
total_most f b zero h = omega arith
total_most f b (suc n) h =
    let last = h n (omega arith) in
    let rest = total_most f b n (λ k low. h k (omega (arith, low))) in
    omega (arith, last, rest)

total_below : (f g : ℕ → ℕ) (n : ℕ) → ((k : ℕ) → k < n → f k ≤ g k) → total f n ≤ total g n
total_below f g zero h = omega arith
total_below f g (suc n) h =
    let last = h n (omega arith) in
    let rest = total_below f g n (λ k low. h k (omega (arith, low))) in
    omega (arith, last, rest)

-- sums are the same only where all numbers are
total_same : (f g : ℕ → ℕ) (n : ℕ) → ((k : ℕ) → k < n → f k ≤ g k) → total g n ≤ total f n → (k : ℕ) → k < n → g k ≤ f k
total_same f g zero h same k low = absurd (omega (arith, low))
total_same f g (suc n) h same k low =
    let last : f n ≤ g n = h n (omega arith) in
    let rest = total_below f g n (λ k low. h k (omega (arith, low))) in
    ⊎_elim
    (λ e. subst (λ m. g m ≤ f m) (sym e) (omega (arith, same, last, rest)))
    (λ other. total_same f g n (λ k low. h k (omega (arith, low))) (omega (arith, same, last, rest)) k (omega (arith, low, other)))
    (cases_eq k n)

abbrev bit : Bool → ℕ
bit true = 1
bit false = 0

bit_most : (b : Bool) → bit b ≤ 1
bit_most true = omega arith
bit_most false = omega arith

bit_below : (a b : Bool) → (a ≡ true → b ≡ true) → bit a ≤ bit b
bit_below true true h = omega arith
bit_below true false h = absurd (false≢true (h refl))
bit_below false b h = omega arith

bit_above : (a b : Bool) → bit a ≤ bit b → a ≡ true → b ≡ true
bit_above true true h e = refl
bit_above true false h e = absurd (omega (arith, h))
bit_above false b h e = absurd (false≢true e)

-- how many pairs of numbers below n pass the test
abbrev pub count : (ℕ → ℕ → Bool) → ℕ → ℕ
count f n = total (λ i. total (λ j. bit (f i j)) n) n

pub count_most : (f : ℕ → ℕ → Bool) (n : ℕ) → count f n ≤ n * n
count_most f n = total_most (λ i. total (λ j. bit (f i j)) n) n n (λ i low.
    let row = total_most (λ j. bit (f i j)) 1 n (λ j within. bit_most (f i j)) in
    omega (arith, row))

module _ (f g : ℕ → ℕ → Bool) (n : ℕ) (passes : (i j : ℕ) → f i j ≡ true → g i j ≡ true) where
  rows_below : (i : ℕ) → i < n → total (λ j. bit (f i j)) n ≤ total (λ j. bit (g i j)) n
  rows_below i low = total_below (λ j. bit (f i j)) (λ j. bit (g i j)) n (λ j within. bit_below (f i j) (g i j) (passes i j))

  pub count_below : count f n ≤ count g n
  count_below = total_below (λ i. total (λ j. bit (f i j)) n) (λ i. total (λ j. bit (g i j)) n) n rows_below

  pub count_same : count g n ≤ count f n → (i j : ℕ) → i < n → j < n → g i j ≡ true → f i j ≡ true
  count_same same i j low within =
      bit_above (g i j) (f i j)
      (total_same (λ j. bit (f i j)) (λ j. bit (g i j)) n (λ j within. bit_below (f i j) (g i j) (passes i j))
      (total_same (λ i. total (λ j. bit (f i j)) n) (λ i. total (λ j. bit (g i j)) n) n rows_below same i low) j within)

-- what is counted is none, where the count is 0
pub none_counted : (f : ℕ → ℕ → Bool) (n : ℕ) → count f n ≤ 0 → (i j : ℕ) → i < n → j < n → f i j ≡ true → ⊥
none_counted f n none i j low within e =
    let rows = total_same (λ i. 0) (λ i. total (λ j. bit (f i j)) n) n (λ i low. omega arith) (omega (arith, none)) i low in
    let cells = total_same (λ j. 0) (λ j. bit (f i j)) n (λ j within. omega arith) (omega (arith, rows)) j within in
    false≢true (bit_above (f i j) false cells e)
