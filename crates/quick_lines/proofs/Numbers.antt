-- Numbers of the quick form as numbers of C.
use Rattle.std.proofs.Common.{◌≡◌, ℕ, suc, ◌==◌, ◌<◌, ◌≤◌, nat_le, true, false, not, ◌&&◌, ◌||◌, List, [], ◌∷◌, ◌++◌, codes, length, take, drop, refl, ◌∙◌, sym, ap, subst, ⊎_elim, ◌⊎◌, inl, inr, arith}
use Rattle.std.specs.List.{list_any, list_all}
use Rattle.std.proofs.Math.Seq.{take-length, drop-length}
use Rattle.std.specs.Str.{bytes_eq}
use Rattle.std.proofs.lemmas.Bool.{both_ways, eqb-true, ne_eqb, leb-true, le-leb, lt-leb, and_from, and_left, and_right, and_parts, not-true, not_from_false, or_from, or_right, cases_Bool, cond_both}
use Rattle.c_names.specs.Names.{is_digit, is_nondigit, is_word_byte, is_identifier}
use Rattle.c_text.specs.Constants.{is_one_of, continue_number, run_length, digits_in, is_suffix_letter, is_digit_in, suffix_of, suffixes, digits_of, based, number_value, largest, is_integer}
use Rattle.quick_form.specs.Words.{is_decimal, is_number, value_of}
use Rattle.quick_trees.proofs.Decimals.{number_value_is}

-- ---- digits

below_letters : (b : ℕ) → is_digit b ≡ true → b ≤ 57
below_letters b h = leb-true b 57 (and_parts (nat_le 48 b) (nat_le b 57) h).1

no_letter : (b : ℕ) (letters : List ℕ) → is_digit b ≡ true → list_all (nat_le 58) letters ≡ true → is_one_of letters b ≡ false
no_letter b [] h all = refl
no_letter b (c ∷ cs) h all =
    let parts = and_parts (nat_le 58 c) (list_all (nat_le 58) cs) all in
    let few = below_letters b h in
    let above = leb-true 58 c parts.0 in
    or_from (c == b) (is_one_of cs b) (ne_eqb c b (λ e. omega (arith, few, above, e))) (no_letter b cs h parts.1)

pub digit_is_no_letter : (b : ℕ) → is_digit b ≡ true → is_nondigit b ≡ false
digit_is_no_letter b h =
    let few = below_letters b h in
    let upper : b < 65 = omega (arith, few) in
    let lower : b < 97 = omega (arith, few) in
    rw (lt-leb 65 b upper, lt-leb 97 b lower, ne_eqb b 95 (λ e. omega (arith, few, e))) refl

pub digits_of_number : (w : List ℕ) → is_number w ≡ true → list_all is_digit w ≡ true
digits_of_number w h = of_decimal w (and_parts (is_decimal w) _ h).0 where
  of_decimal : (w : List ℕ) → is_decimal w ≡ true → list_all is_digit w ≡ true
  of_decimal [] h = refl
  of_decimal (d ∷ []) h = and_from (is_digit d) true h refl
  of_decimal (d ∷ e ∷ w) h = (and_parts (not (d == 48)) (list_all is_digit (d ∷ e ∷ w)) h).1

pub number_is_no_name : (w : List ℕ) → is_number w ≡ true → is_identifier w ≡ false
number_is_no_name [] h = refl
number_is_no_name (b ∷ w) h =
    let parts = and_parts (is_digit b) (list_all is_digit w) (digits_of_number (b ∷ w) h) in
    and_left (is_nondigit b) (list_all is_word_byte w) (digit_is_no_letter b parts.0)

-- ---- where a number ends

pub digits_continue : (last : ℕ) (w : List ℕ) → list_all is_digit w ≡ true → continue_number last w ≡ true
digits_continue last [] h = refl
digits_continue last (b ∷ w) h =
    let parts = and_parts (is_digit b) (list_all is_digit w) h in
    rw (or_right (is_nondigit b) (is_digit b) parts.0) (digits_continue b w parts.1)

-- digits go on with nothing but a letter, `_`, a digit or a point
pub digits_end : (last : ℕ) (w : List ℕ) (b : ℕ) (more : List ℕ) → is_digit last ≡ true → list_all is_digit w ≡ true
    → is_word_byte b ≡ false → (b == 46) ≡ false → continue_number last (w ++ b ∷ more) ≡ false
digits_end last [] b more l h other point =
    and_left (is_word_byte b || b == 46 || (is_one_of (codes "+-") b && is_one_of (codes "eEpP") last)) (continue_number b more)
    (or_from (is_word_byte b || b == 46) (is_one_of (codes "+-") b && is_one_of (codes "eEpP") last) (or_from (is_word_byte b) (b == 46) other point)
    (and_right (is_one_of (codes "+-") b) (is_one_of (codes "eEpP") last) (no_letter last (codes "eEpP") l refl)))
digits_end last (d ∷ w) b more l h other point =
    let parts = and_parts (is_digit d) (list_all is_digit w) h in
    and_right (is_word_byte d || d == 46 || (is_one_of (codes "+-") d && is_one_of (codes "eEpP") last)) (continue_number d (w ++ b ∷ more))
    (digits_end d w b more parts.0 parts.1 other point)

-- ---- the number is an integer that C reads

digits_run : (w : List ℕ) → list_all is_digit w ≡ true → run_length (λ b. not (is_suffix_letter b)) w ≡ length w
digits_run [] h = refl
digits_run (b ∷ w) h =
    let parts = and_parts (is_digit b) (list_all is_digit w) h in
    rw (no_letter b (codes "uUlL") parts.0 refl) (ap (λ n. suc n) (digits_run w parts.1))

module _ (w : List ℕ) (number : is_number w ≡ true) where
  no_suffix : suffix_of w ≡ []
  no_suffix = ap (λ n. drop n w) (digits_run w (digits_of_number w number)) ∙ drop-length w

  all_digits : digits_of w ≡ based w
  all_digits = ap based (ap (λ n. take n w) (digits_run w (digits_of_number w number)) ∙ take-length w)

-- the base is 10, but for `0`
base_of : (w : List ℕ) → is_decimal w ≡ true → (w ≡ 48 ∷ []) ⊎ (based w ≡ digits_in 10 w)
base_of [] h = absurd (both_ways false refl h)
base_of (b ∷ []) h = ⊎_elim (λ e. inl (ap (λ d. d ∷ []) (eqb-true b 48 e))) (λ e. inr (rw e refl)) (cases_Bool (b == 48))
base_of (b ∷ d ∷ w) h =
    let parts = and_parts (not (b == 48)) (list_all is_digit (b ∷ d ∷ w)) h in
    inr (rw (not-true (b == 48) parts.0) refl)

not_empty : (w : List ℕ) → is_decimal w ≡ true → not (length w == 0) ≡ true
not_empty [] h = absurd (both_ways false refl h)
not_empty (b ∷ w) h = not_from_false (length (b ∷ w) == 0) (ne_eqb (suc (length w)) 0 (λ e. omega (arith, e)))

small : (w : List ℕ) → is_number w ≡ true → nat_le (number_value w) (largest w) ≡ true
small w h =
    let few = leb-true (value_of w) 2147483647 (and_parts (is_decimal w) (nat_le (value_of w) 2147483647) h).1 in
    let same = number_value_is w h in
    cond_both _ 9223372036854775807 18446744073709551615 (λ n. nat_le (number_value w) n ≡ true)
    (λ _. le-leb (number_value w) 9223372036854775807 (omega (arith, few, same)))
    (λ _. le-leb (number_value w) 18446744073709551615 (omega (arith, few, same)))

in_base_ten : (w : List ℕ) → is_number w ≡ true → based w ≡ digits_in 10 w → is_integer w ≡ true
in_base_ten w h e =
    let ten = all_digits w h ∙ e in
    let decimal = (and_parts (is_decimal w) _ h).0 in
    and_from _ (nat_le (number_value w) (largest w))
    (and_from _ (list_all (is_digit_in (digits_of w).base) (digits_of w).digits)
    (and_from (list_any (bytes_eq (suffix_of w)) suffixes) (not (length (digits_of w).digits == 0))
    (ap (λ s. list_any (bytes_eq s) suffixes) (no_suffix w h))
    (ap (λ d. not (length d.digits == 0)) ten ∙ not_empty w decimal))
    (ap (λ d. list_all (is_digit_in d.base) d.digits) ten ∙ digits_of_number w h))
    (small w h)

pub number_is_integer : (w : List ℕ) → is_number w ≡ true → is_integer w ≡ true
number_is_integer w h =
    ⊎_elim (λ e. subst (λ v. is_integer v ≡ true) (sym e) refl) (λ e. in_base_ten w h e) (base_of w (and_parts (is_decimal w) _ h).0)
