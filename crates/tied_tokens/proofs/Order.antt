-- A token is put among others that are in order.
use Rattle.std.proofs.Common.{◌≡◌, ℕ, ◌==◌, Bool, true, false, ◌&&◌, ◌||◌, nat_lt, List, [], ◌∷◌, ◌++◌, take, drop, refl, sym, ap, ◌∙◌, arith}
use Rattle.std.specs.Prelude.{◌↔◌, Contains, IsTrue, if◌then◌else◌}
use Rattle.std.proofs.lemmas.Bool.Decides.{nat_tests}
use Rattle.std.proofs.lemmas.List.{take-append-drop, map-append}
use Rattle.c_text.specs.declared.origin.FileToken.{FileToken}
use Rattle.program_occurrences.specs.Classes.{PlainFileToken}
use Rattle.tied_tokens.specs.Tokens.{plain_file_token, plain_file_tokens, stands_before, AreInOrder}
use Rattle.tied_tokens.specs.Search.{placed}
use Rattle.tied_tokens.proofs.Members.{in_tail, moved_behind}

-- ---- order

abbrev before : ℕ → ℕ → ℕ → ℕ → ℕ → ℕ → Bool
before f s e g t u = nat_lt f g || (f == g && (nat_lt s t || (s == t && nat_lt e u)))

neither : (f s e g t u : ℕ) → before f s e g t u ≡ false → before g t u f s e ≡ false → (f ≡ g) × (s ≡ t) × (e ≡ u)
neither f s e g t u h k = (grind (arith, nat_tests), grind (arith, nat_tests), grind (arith, nat_tests))

abbrev token_at : ℕ → ℕ → ℕ → PlainFileToken
token_at f s e = record { file = f; span = record { start = s; «end» = e } }

flat_is : (f s e g t u : ℕ) → f ≡ g → s ≡ t → e ≡ u → token_at f s e ≡ token_at g t u
flat_is f s e g t u p q r = ap (λ x. token_at x s e) p ∙ (ap (λ x. token_at g x e) q ∙ ap (λ x. token_at g t x) r)

pub one_token : (a b : PlainFileToken) → a.file ≡ b.file → a.span.start ≡ b.span.start → a.span.end ≡ b.span.end → a ≡ b
one_token a b p q r = flat_is a.file a.span.start a.span.end b.file b.span.start b.span.end p q r

-- of two tokens that aren't one, one stands before the other
pub stands_behind : (a b : PlainFileToken) → (a ≡ b → ⊥) → stands_before a b ≡ false → IsTrue (stands_before b a)
stands_behind a b apart none = by (stands_before b a) refl
  where
    by : (r : Bool) → stands_before b a ≡ r → IsTrue (stands_before b a)
    by true e = e
    by false e =
        let same = neither a.file a.span.start a.span.end b.file b.span.start b.span.end none e in absurd (apart (one_token a b same.0 same.1 same.2))

module _ (token : FileToken) where
  behind_first :
      (x : FileToken) (xs : List FileToken) → IsTrue (stands_before (plain_file_token x) (plain_file_token token)) → AreInOrder (plain_file_tokens (x ∷ xs))
      → AreInOrder (plain_file_tokens (placed token xs)) → AreInOrder (plain_file_tokens (x ∷ placed token xs))
  behind_first x [] before ordered inner = (before, tt)
  behind_first x (y ∷ ys) before ordered inner = by (stands_before (plain_file_token y) (plain_file_token token)) inner
    where
      by : (b : Bool) → AreInOrder (plain_file_tokens (if b then y ∷ placed token ys else token ∷ y ∷ ys))
          → AreInOrder (plain_file_tokens (x ∷ (if b then y ∷ placed token ys else token ∷ y ∷ ys)))
      by true inner = (ordered.0, inner)
      by false inner = (before, inner)

  tail_in_order : (x : FileToken) (xs : List FileToken) → AreInOrder (plain_file_tokens (x ∷ xs)) → AreInOrder (plain_file_tokens xs)
  tail_in_order x [] ordered = tt
  tail_in_order x (y ∷ ys) ordered = ordered.1

  pub placed_in_order :
      (xs : List FileToken) → (Contains (plain_file_tokens xs) (plain_file_token token) → ⊥) → AreInOrder (plain_file_tokens xs)
      → AreInOrder (plain_file_tokens (placed token xs))
  placed_in_order [] fresh ordered = tt
  placed_in_order (x ∷ xs) fresh ordered =
      by (stands_before (plain_file_token x) (plain_file_token token)) refl
      (placed_in_order xs (λ h. fresh (in_tail (plain_file_token x) (plain_file_tokens xs) (plain_file_token token) h)) (tail_in_order x xs ordered))
    where
      apart : plain_file_token x ≡ plain_file_token token → ⊥
      apart e = fresh (0, omega arith, e)

      by : (b : Bool) → stands_before (plain_file_token x) (plain_file_token token) ≡ b → AreInOrder (plain_file_tokens (placed token xs))
          → AreInOrder (plain_file_tokens (if b then x ∷ placed token xs else token ∷ x ∷ xs))
      by true e inner = behind_first x xs e ordered inner
      by false e inner = (stands_behind (plain_file_token x) (plain_file_token token) apart e, ordered)

  -- where it is put, its place tells nothing of which tokens are there
  pub placed_members :
      (xs new : List FileToken) (k : ℕ) (other : PlainFileToken) → new ≡ take k xs ++ token ∷ drop k xs
      → Contains (plain_file_tokens new) other ↔ Contains (plain_file_tokens xs ++ plain_file_token token ∷ []) other
  placed_members xs new k other is =
      let front = plain_file_tokens (take k xs) in
      let rest = plain_file_tokens (drop k xs) in
      let whole : front ++ rest ≡ plain_file_tokens xs = sym (map-append plain_file_token (take k xs) (drop k xs)) ∙ ap plain_file_tokens (take-append-drop k xs) in
      let made : plain_file_tokens new ≡ front ++ plain_file_token token ∷ rest = ap plain_file_tokens is ∙ map-append plain_file_token (take k xs) (token ∷ drop k xs) in
      rw (made, ← whole) (moved_behind front rest (plain_file_token token) other)
