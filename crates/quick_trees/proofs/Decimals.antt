-- A number of the quick form is a constant of type `int` with the same value.
use Rattle.std.proofs.Common.{◌≡◌, ℕ, suc, ◌+◌, ◌-◌, ◌*◌, ◌==◌, ◌<◌, ◌≤◌, nat_le, pos, Bool, true, false, not, ◌&&◌, List, [], ◌∷◌, length, take, drop, refl, ◌∙◌, ap, cond, IsTrue, arith, lit<}
use Rattle.std.proofs.lemmas.Bool.{eqb-true, leb-true}
use Rattle.std.proofs.Math.Seq.{take-length, drop-length}
use Rattle.std.specs.List.{list_all}
use Rattle.c_names.specs.Names.{is_digit}
use Rattle.c_text.specs.Constants as c
use Rattle.c_text.specs.Constants.{run_length, is_suffix_letter, suffix_of, digits_of, digit_value, digits_from, based, number_value}
use Rattle.c_types.specs.Types.{int}
use Rattle.core_meaning.specs.Expressions.{number_types, first_type, number_type}
use Rattle.quick_form.specs.Words.{is_decimal, is_number, value_from, value_of}

pub halves : (a b : Bool) → IsTrue (a && b) → IsTrue a × IsTrue b
halves true b h = (refl, h)
halves false b h = absurd cc

other_than : (a b : ℕ) (t : Bool) → (a == b) ≡ t → (a ≡ b → ⊥) → (a == b) ≡ false
other_than a b true e h = absurd (h (eqb-true a b e))
other_than a b false e h = e

below_letters : (b c : ℕ) → IsTrue (is_digit b) → 57 < c → (c == b) ≡ false
below_letters b c h l =
    let few : b ≤ 57 = leb-true b 57 (halves (nat_le 48 b) (nat_le b 57) h).1 in
    other_than c b (c == b) refl (λ e. omega arith)

digit_is_no_letter : (b : ℕ) → IsTrue (is_digit b) → is_suffix_letter b ≡ false
digit_is_no_letter b h = rw (below_letters b 117 h (lit< tt), below_letters b 85 h (lit< tt), below_letters b 108 h (lit< tt), below_letters b 76 h (lit< tt)) refl

digits_run : (w : List ℕ) → IsTrue (list_all is_digit w) → run_length (λ b. not (is_suffix_letter b)) w ≡ length w
digits_run [] h = refl
digits_run (b ∷ w) h =
    let parts = halves (is_digit b) (list_all is_digit w) h in
    rw (digit_is_no_letter b parts.0) (ap (λ n. suc n) (digits_run w parts.1))

take_whole : (w : List ℕ) → take (length w) w ≡ w
take_whole w = take-length w

drop_whole : (w : List ℕ) → drop (length w) w ≡ []
drop_whole w = drop-length w

no_suffix : (w : List ℕ) → IsTrue (list_all is_digit w) → suffix_of w ≡ []
no_suffix w h = ap (λ n. drop n w) (digits_run w h) ∙ drop_whole w

all_digits : (w : List ℕ) → IsTrue (list_all is_digit w) → digits_of w ≡ based w
all_digits w h = ap based (ap (λ n. take n w) (digits_run w h) ∙ take_whole w)

digit_is : (b : ℕ) → IsTrue (is_digit b) → digit_value b ≡ b - 48
digit_is b h = rw h refl

digits_value_is : (n : ℕ) (w : List ℕ) → IsTrue (list_all is_digit w) → digits_from 10 n w ≡ value_from n w
digits_value_is n [] h = refl
digits_value_is n (b ∷ w) h =
    let parts = halves (is_digit b) (list_all is_digit w) h in
    ap (λ d. digits_from 10 (10 * n + d) w) (digit_is b parts.0) ∙ digits_value_is (10 * n + (b - 48)) w parts.1

decimal_digits : (w : List ℕ) → IsTrue (is_decimal w) → IsTrue (list_all is_digit w)
decimal_digits [] h = absurd cc
decimal_digits (d ∷ []) h = rw h refl
decimal_digits (d ∷ e ∷ w) h = (halves (not (d == 48)) (list_all is_digit (d ∷ e ∷ w)) h).1

one_digit : (b : ℕ) (t : Bool) → IsTrue (is_digit b) → c.digits_value (cond t (c.digits_in 8 (b ∷ [])) (c.digits_in 10 (b ∷ []))).base (cond t (c.digits_in 8 (b ∷ [])) (c.digits_in 10 (b ∷ []))).digits ≡ value_of (b ∷ [])
one_digit b true h = ap (λ d. 0 + d) (digit_is b h)
one_digit b false h = ap (λ d. 0 + d) (digit_is b h)

no_octal : (b d : ℕ) (w : List ℕ) (t : Bool) → (b == 48) ≡ t → IsTrue (not t) → based (b ∷ d ∷ w) ≡ c.digits_in 10 (b ∷ d ∷ w)
no_octal b d w true e h = absurd cc
no_octal b d w false e h = rw e refl

based_value : (w : List ℕ) → IsTrue (is_decimal w) → c.digits_value (based w).base (based w).digits ≡ value_of w
based_value [] h = absurd cc
based_value (b ∷ []) h = one_digit b (b == 48) h
based_value (b ∷ d ∷ w) h =
    let parts = halves (not (b == 48)) (list_all is_digit (b ∷ d ∷ w)) h in
    ap (λ x. c.digits_value x.base x.digits) (no_octal b d w (b == 48) refl parts.0) ∙ digits_value_is 0 (b ∷ d ∷ w) parts.1

pub number_value_is : (w : List ℕ) → IsTrue (is_number w) → number_value w ≡ value_of w
number_value_is w h =
    let decimal = (halves (is_decimal w) _ h).0 in
    ap (λ x. c.digits_value x.base x.digits) (all_digits w (decimal_digits w decimal)) ∙ based_value w decimal

first_is_int : (b : Bool) (n : ℕ) → IsTrue (nat_le n 2147483647) → first_type (number_types false false b) (pos n) ≡ int
first_is_int true n h = rw h refl
first_is_int false n h = rw h refl

pub number_is_int : (w : List ℕ) → IsTrue (is_number w) → number_type w ≡ int
number_is_int w h =
    let parts = halves (is_decimal w) (nat_le (value_of w) 2147483647) h in
    let none = no_suffix w (decimal_digits w parts.0) in
    rw (none, number_value_is w h) (first_is_int ((digits_of w).base == 10) (value_of w) parts.1)
