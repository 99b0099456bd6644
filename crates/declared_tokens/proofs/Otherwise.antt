-- Tokens that are declared by others, and by the same.
use Rattle.std.proofs.Common.{◌≡◌, ℕ, zero, suc, ◌==◌, ◌<◌, ◌≤◌, Bool, true, false, not, ◌||◌, List, [], ◌∷◌, map, length, get_or, Contains, refl, sym, subst, ◌∙◌, inl, inr, arith}
use Rattle.std.specs.Prelude.{◌⊎◌, ◌↔◌, nat_lt, Vec}
use Rattle.std.specs.declared.alloc.Global.{Global}
use Rattle.std.proofs.lemmas.Bool.{or_cases, or_left, or_right, eqb-true, eqb-false, eq-eqb, ltb-true, ltb-false}
use Rattle.std.proofs.lemmas.List.Elements.{Contains-append_left, Contains-append_right, Contains-append_cases, Contains-push}
use Rattle.declared_tokens.specs.declared.tokens.DeclaredBy.{DeclaredBy}
use Rattle.declared_tokens.specs.Declarations.{numbers_at, is_among, is_one_missing, differ, AreDeclaredAlike, TellsOtherwise, is_one_declared_otherwise}

-- ---- members

none_among : (n : ℕ) → Contains [] n → ⊥
none_among n h = let low : h.0 < 0 = h.1 in absurd (omega (arith, low))

first_among : (n : ℕ) (rest : List ℕ) → Contains (n ∷ rest) n
first_among n rest = Contains-append_left (n ∷ []) rest n (Contains-push [] n)

one_or_other : (n : ℕ) (rest : List ℕ) (m : ℕ) → Contains (n ∷ rest) m → (n ≡ m) ⊎ Contains rest m
one_or_other n rest m h = by (Contains-append_cases (n ∷ []) rest m h)
  where
    by : Contains (n ∷ []) m ⊎ Contains rest m → (n ≡ m) ⊎ Contains rest m
    by (inl (zero, low, e)) = inl e
    by (inl (suc k, low, e)) = absurd (omega (arith, low))
    by (inr h) = inr h

is_member : (all : List ℕ) (n : ℕ) → is_among all n ≡ true → Contains all n
is_member [] n h = absurd (let no : ◌≡◌ {A = Bool} false true = h in cc)
is_member (m ∷ rest) n h = by (or_cases (m == n) (is_among rest n) h) (λ later. is_member rest n later)
  where
    by : ((m == n) ≡ true) ⊎ (is_among rest n ≡ true) → (is_among rest n ≡ true → Contains rest n) → Contains (m ∷ rest) n
    by (inl e) later = subst (λ k. Contains (m ∷ rest) k) (eqb-true m n e) (first_among m rest)
    by (inr h) later = Contains-append_right (m ∷ []) rest n (later h)

member_is : (all : List ℕ) (n : ℕ) → Contains all n → is_among all n ≡ true
member_is [] n h = absurd (none_among n h)
member_is (m ∷ rest) n h = by (one_or_other m rest n h) (λ later. member_is rest n later)
  where
    by : (m ≡ n) ⊎ Contains rest n → (Contains rest n → is_among rest n ≡ true) → is_among (m ∷ rest) n ≡ true
    by (inl e) later = or_left (m == n) (is_among rest n) (eq-eqb m n e)
    by (inr h) later = or_right (m == n) (is_among rest n) (later h)

-- ---- what is missing

pub record IsMissing (some all : List ℕ) : Type 0 where
  pub number : ℕ
  pub among : Contains some number
  pub lacking : Contains all number → ⊥

none_missing : (some all : List ℕ) → is_one_missing some all ≡ false → (n : ℕ) → Contains some n → Contains all n
none_missing [] all h n among = absurd (none_among n among)
none_missing (m ∷ rest) all h n among = by (is_among all m) refl h (one_or_other m rest n among) (λ later. none_missing rest all later n)
  where
    by : (b : Bool) → is_among all m ≡ b → (not b || is_one_missing rest all) ≡ false → (m ≡ n) ⊎ Contains rest n → (is_one_missing rest all ≡ false → Contains rest n → Contains all n) → Contains all n
    by true e none (inl same) later = subst (λ k. Contains all k) same (is_member all m e)
    by true e none (inr there) later = later none there
    by false e none which later = absurd (let no : ◌≡◌ {A = Bool} true false = none in cc)

one_missing : (some all : List ℕ) → is_one_missing some all ≡ true → IsMissing some all
one_missing [] all h = absurd (let no : ◌≡◌ {A = Bool} false true = h in cc)
one_missing (m ∷ rest) all h = by (is_among all m) refl h (λ later. one_missing rest all later)
  where
    by : (b : Bool) → is_among all m ≡ b → (not b || is_one_missing rest all) ≡ true → (is_one_missing rest all ≡ true → IsMissing rest all) → IsMissing (m ∷ rest) all
    by true e some later =
        let found = later some in
        record { number = found.number; among = Contains-append_right (m ∷ []) rest found.number found.among; lacking = found.lacking }
    by false e some later =
        record { number = m; among = first_among m rest; lacking = λ there. absurd (let no : ◌≡◌ {A = Bool} false true = sym e ∙ member_is all m there in cc) }

neither : (a b : Bool) → (a || b) ≡ false → (a ≡ false) × (b ≡ false)
neither true b e = absurd (let no : ◌≡◌ {A = Bool} true false = e in cc)
neither false b e = (refl, e)

alike : (a b : List ℕ) → differ a b ≡ false → (n : ℕ) → Contains a n ↔ Contains b n
alike a b e n =
    let none = neither (is_one_missing a b) (is_one_missing b a) e in
    (none_missing a b none.0 n, none_missing b a none.1 n)

unlike : (a b : List ℕ) → differ a b ≡ true → ((n : ℕ) → Contains a n ↔ Contains b n) → ⊥
unlike a b e same = by (or_cases (is_one_missing a b) (is_one_missing b a) e)
  where
    by : (is_one_missing a b ≡ true) ⊎ (is_one_missing b a ≡ true) → ⊥
    by (inl h) = let m = one_missing a b h in m.lacking ((same m.number).0 m.among)
    by (inr h) = let m = one_missing b a h in m.lacking ((same m.number).1 m.among)

-- ---- tokens

nearer : (token count : ℕ) → token < suc count → (token ≡ count → ⊥) → token < count
nearer token count within apart = by (nat_lt token count) refl
  where
    by : (b : Bool) → nat_lt token count ≡ b → token < count
    by true h = ltb-true token count h
    by false h = let past : count ≤ token = ltb-false token count h in absurd (apart (omega (arith, within, past)))

module _ (a b : ℕ → List ℕ) where
  all_alike : (count : ℕ) → is_one_declared_otherwise a b count ≡ false → (token : ℕ) → token < count → (n : ℕ) → Contains (a token) n ↔ Contains (b token) n
  all_alike zero e token within = absurd (omega (arith, within))
  all_alike (suc count) e token within = by (token == count) refl (neither (is_one_declared_otherwise a b count) (differ (a count) (b count)) e) (λ before. all_alike count before token)
    where
      by : (same : Bool) → (token == count) ≡ same → (is_one_declared_otherwise a b count ≡ false) × (differ (a count) (b count) ≡ false)
          → (is_one_declared_otherwise a b count ≡ false → token < count → (n : ℕ) → Contains (a token) n ↔ Contains (b token) n) → (n : ℕ) → Contains (a token) n ↔ Contains (b token) n
      by true is none before = subst (λ t. (n : ℕ) → Contains (a t) n ↔ Contains (b t) n) (sym (eqb-true token count is)) (alike (a count) (b count) none.1)
      by false is none before = before none.0 (nearer token count within (eqb-false token count is))

  one_unlike : (count : ℕ) → is_one_declared_otherwise a b count ≡ true → AreDeclaredAlike a b → ⊥
  one_unlike zero e same = absurd (let no : ◌≡◌ {A = Bool} false true = e in cc)
  one_unlike (suc count) e same = by (or_cases (is_one_declared_otherwise a b count) (differ (a count) (b count)) e) (λ before. one_unlike count before same)
    where
      by : (is_one_declared_otherwise a b count ≡ true) ⊎ (differ (a count) (b count) ≡ true) → (is_one_declared_otherwise a b count ≡ true → ⊥) → ⊥
      by (inl h) before = before h
      by (inr h) before = unlike (a count) (b count) h (same count)

  same_at : (count : ℕ) → ((token : ℕ) → count ≤ token → a token ≡ []) → ((token : ℕ) → count ≤ token → b token ≡ []) → is_one_declared_otherwise a b count ≡ false → AreDeclaredAlike a b
  same_at count none nor e token number = by (nat_lt token count) refl
    where
      by : (within : Bool) → nat_lt token count ≡ within → Contains (a token) number ↔ Contains (b token) number
      by true h = all_alike count e token (ltb-true token count h) number
      by false h =
          let beyond : count ≤ token = ltb-false token count h in
          (λ m. absurd (none_among number (subst (λ l. Contains l number) (none token beyond) m)), λ m. absurd (none_among number (subst (λ l. Contains l number) (nor token beyond) m)))

  -- so many tokens tell it, where no other is declared at all
  pub tells-otherwise : (count : ℕ) → ((token : ℕ) → count ≤ token → a token ≡ []) → ((token : ℕ) → count ≤ token → b token ≡ []) → (v : Bool) → v ≡ is_one_declared_otherwise a b count → TellsOtherwise v a b
  tells-otherwise count none nor true e = one_unlike count (sym e)
  tells-otherwise count none nor false e = same_at count none nor (sym e)

-- a unit with fewer tokens has no entries for one
pub none-beyond : (on : ℕ → Bool) (lists : List (Vec DeclaredBy Global)) (token : ℕ) → length lists ≤ token → numbers_at on (get_or (map (λ entries. entries.items) lists) token []) ≡ []
none-beyond on [] token past = refl
none-beyond on (first ∷ rest) zero past = absurd (omega (arith, past))
none-beyond on (first ∷ rest) (suc token) past = none-beyond on rest token (omega (arith, past))
