-- The longest prefix that passes, byte by byte.
use Rattle.std.proofs.Common.{◌≡◌, ℕ, zero, suc, ◌+◌, ◌<◌, ◌≤◌, ◌==◌, Bool, true, false, cond, ◌&&◌, List, [], ◌∷◌, length, take, refl, sym, ap, subst, ◌∙◌, arith}
use Rattle.std.specs.List.{prefix_len, list_all}
use Rattle.std.proofs.lemmas.Bool.{ne_eqb}
use Rattle.c_lexer.specs.declared.scans.End.{End}
use Rattle.c_lexer.specs.declared.scans.End.TheVariants.{Closed, Open}
use Rattle.c_lexer.specs.Longest.{IsLongestAt, IsNever, IsLongestOf}

-- A test of texts with this first byte, by a test of what follows it.
module _ (test inner : List ℕ → Bool) (b : ℕ) (xs : List ℕ) (e : (w : List ℕ) → test (b ∷ w) ≡ inner w) where
  fails-cons : (k : ℕ) → ((m : ℕ) → k < m → m ≤ length xs → inner (take m xs) ≡ false) → (m : ℕ) → suc k < m → m ≤ length (b ∷ xs) → test (take m (b ∷ xs)) ≡ false
  fails-cons k h zero l w = absurd (omega arith)
  fails-cons k h (suc m) l w = e (take m xs) ∙ h m (omega arith) (omega arith)

  pub at-cons : (k : ℕ) → IsLongestAt inner xs k → IsLongestAt test (b ∷ xs) (suc k)
  at-cons k h = record {
    within = omega (arith, h.within);
    passes = e (take k xs) ∙ h.passes;
    fails = fails-cons k h.fails;
  }

  pub never-cons : test [] ≡ false → IsNever inner xs → IsNever test (b ∷ xs)
  never-cons empty h zero w = empty
  never-cons empty h (suc m) w = e (take m xs) ∙ h m (omega arith)

module _ (test : List ℕ → Bool) (b : ℕ) (xs : List ℕ) (e : (w : List ℕ) → test (b ∷ w) ≡ false) where
  fails-stop : (m : ℕ) → 0 < m → m ≤ length (b ∷ xs) → test (take m (b ∷ xs)) ≡ false
  fails-stop zero l w = absurd (omega arith)
  fails-stop (suc m) l w = e (take m xs)

  pub at-stop : test [] ≡ true → IsLongestAt test (b ∷ xs) 0
  at-stop empty = record { within = omega arith; passes = empty; fails = fails-stop }

  pub never-first : test [] ≡ false → IsNever test (b ∷ xs)
  never-first empty zero w = empty
  never-first empty (suc m) w = e (take m xs)

pub at-end : (test : List ℕ → Bool) → test [] ≡ true → IsLongestAt test [] 0
at-end test empty = record { within = omega arith; passes = empty; fails = λ m l w. absurd (omega (arith, l, w)) }

pub never-end : (test : List ℕ → Bool) → test [] ≡ false → IsNever test []
never-end test empty zero w = empty
never-end test empty (suc m) w = absurd (omega arith)

-- nothing but the empty text
at-empty : (xs : List ℕ) → IsLongestAt (λ w. length w == 0) xs 0
at-empty [] = at-end (λ w. length w == 0) refl
at-empty (b ∷ xs) = at-stop (λ w. length w == 0) b xs (λ w. ne_eqb (suc (length w)) 0 (λ h. absurd (omega (arith, h)))) refl

pub of-at : (test : List ℕ → Bool) (xs : List ℕ) (n : ℕ) → IsLongestAt test xs n → IsLongestOf test xs n
of-at test xs n h = record { within = h.within; passes = λ l. h.passes; fails = h.fails }

pub of-never : (test : List ℕ → Bool) (xs : List ℕ) → IsNever test xs → IsLongestOf test xs 0
of-never test xs h = record { within = omega arith; passes = λ l. absurd (omega (arith, l)); fails = λ m l w. h m w }

pub of-cons : (test inner : List ℕ → Bool) (b : ℕ) (xs : List ℕ) (k n : ℕ) → n ≡ suc k → ((w : List ℕ) → test (b ∷ w) ≡ inner w) → IsLongestAt inner xs k → IsLongestOf test (b ∷ xs) n
of-cons test inner b xs k n is e h =
    subst (λ m. IsLongestOf test (b ∷ xs) m) (sym is) (of-at test (b ∷ xs) (suc k) (at-cons test inner b xs e k h))

-- a run of bytes
module _ (p : ℕ → Bool) where
  run-by : (b : ℕ) (xs : List ℕ) (t : Bool) → p b ≡ t → IsLongestAt (list_all p) xs (prefix_len p xs) → IsLongestAt (list_all p) (b ∷ xs) (cond t (1 + prefix_len p xs) 0)
  run-by b xs true e h =
      let one : suc (prefix_len p xs) ≡ 1 + prefix_len p xs = omega arith in
      subst (λ n. IsLongestAt (list_all p) (b ∷ xs) n) one
      (at-cons (list_all p) (list_all p) b xs (λ w. ap (λ t. t && list_all p w) e) (prefix_len p xs) h)
  run-by b xs false e h = at-stop (list_all p) b xs (λ w. ap (λ t. t && list_all p w) e) refl

  pub run-at : (xs : List ℕ) → IsLongestAt (list_all p) xs (prefix_len p xs)
  run-at [] = at-end (list_all p) refl
  run-at (b ∷ xs) = run-by b xs (p b) refl (run-at xs)

-- Where something that may be closed ends, counted from the place i: the whole of it, and its longest open part.
pub record IsClosedAt (closed open_part : List ℕ → Bool) (i : ℕ) (xs : List ℕ) (n : ℕ) : Type 0 where
  pub before : ℕ
  pub is_closed : IsLongestAt closed xs (suc before)
  pub is_open : IsLongestAt open_part xs before
  pub place : n ≡ i + suc before

pub record IsOpenTo (closed open_part : List ℕ → Bool) (i : ℕ) (xs : List ℕ) (n : ℕ) : Type 0 where
  pub before : ℕ
  pub never : IsNever closed xs
  pub is_open : IsLongestAt open_part xs before
  pub place : n ≡ i + before

abbrev pub EndsAt : (List ℕ → Bool) → (List ℕ → Bool) → ℕ → List ℕ → End → Type 0
EndsAt closed open_part i xs (Closed n) = IsClosedAt closed open_part i xs n
EndsAt closed open_part i xs (Open n) = IsOpenTo closed open_part i xs n

module _ (closed open_part : List ℕ → Bool) (i : ℕ) (unclosed : closed [] ≡ false) where
  pub ends-cons : (closed' open' : List ℕ → Bool) (b : ℕ) (xs : List ℕ) → ((w : List ℕ) → closed (b ∷ w) ≡ closed' w) → ((w : List ℕ) → open_part (b ∷ w) ≡ open' w) → (end : End) → EndsAt closed' open' (i + 1) xs end → EndsAt closed open_part i (b ∷ xs) end
  ends-cons closed' open' b xs c o (Closed n) h = record {
    before = suc h.before;
    is_closed = at-cons closed closed' b xs c (suc h.before) h.is_closed;
    is_open = at-cons open_part open' b xs o h.before h.is_open;
    place = omega (arith, h.place);
  }
  ends-cons closed' open' b xs c o (Open n) h = record {
    before = suc h.before;
    never = never-cons closed closed' b xs c unclosed h.never;
    is_open = at-cons open_part open' b xs o h.before h.is_open;
    place = omega (arith, h.place);
  }

  module _ (empty : open_part [] ≡ true) where
    pub ends-close : (b : ℕ) (xs : List ℕ) → ((w : List ℕ) → closed (b ∷ w) ≡ (length w == 0)) → ((w : List ℕ) → open_part (b ∷ w) ≡ false) → EndsAt closed open_part i (b ∷ xs) (Closed (i + 1))
    ends-close b xs c o = record {
      before = 0;
      is_closed = at-cons closed (λ w. length w == 0) b xs c 0 (at-empty xs);
      is_open = at-stop open_part b xs o empty;
      place = omega arith;
    }

    pub ends-stop : (b : ℕ) (xs : List ℕ) → ((w : List ℕ) → closed (b ∷ w) ≡ false) → ((w : List ℕ) → open_part (b ∷ w) ≡ false) → EndsAt closed open_part i (b ∷ xs) (Open i)
    ends-stop b xs c o = record {
      before = 0;
      never = never-first closed b xs c unclosed;
      is_open = at-stop open_part b xs o empty;
      place = omega arith;
    }

    pub ends-end : EndsAt closed open_part i [] (Open i)
    ends-end = record {
      before = 0;
      never = never-end closed unclosed;
      is_open = at-end open_part empty;
      place = omega arith;
    }
