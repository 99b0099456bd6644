-- The scans find the longest numbers, comments and quoted pieces.
use Rattle.std.proofs.Common.{◌≡◌, ℕ, suc, ◌+◌, ◌==◌, Bool, true, false, not, cond, ◌&&◌, ◌||◌, List, [], ◌∷◌, length, refl, sym, ap, ◌∙◌, arith}
use Rattle.std.proofs.lemmas.Bool.{both_ways, ne_eqb, eqb-true, eqb-false, and_right}
use Rattle.c_text.specs.Constants.{continue_number, is_closed, is_closed_behind, is_unclosed, is_unclosed_behind}
use Rattle.c_text.specs.Pieces.{has_end, ends_first}
use Rattle.c_lexer.specs.Longest.{IsLongestAt}
use Rattle.c_lexer.specs.Scans.{go_on, number_from, comment_from, quote_from}
use Rattle.c_lexer.specs.declared.scans.End.TheVariants.{Closed, Open}
use Rattle.c_lexer.proofs.LongestLemmas.{at-cons, at-stop, at-end, EndsAt, ends-cons, ends-close, ends-stop, ends-end}

-- numbers
pub record NumberEnds (last i : ℕ) (xs : List ℕ) (n : ℕ) : Type 0 where
  pub length : ℕ
  pub longest : IsLongestAt (continue_number last) xs length
  pub place : n ≡ i + length

number-by : (last i b : ℕ) (xs : List ℕ) (t : Bool) → go_on last b ≡ t → NumberEnds b (i + 1) xs (number_from b (i + 1) xs) → NumberEnds last i (b ∷ xs) (cond t (number_from b (i + 1) xs) i)
number-by last i b xs true e h = record {
  length = suc h.length;
  longest = at-cons (continue_number last) (continue_number b) b xs (λ w. ap (λ t. t && continue_number b w) e) h.length h.longest;
  place = omega (arith, h.place);
}
number-by last i b xs false e h = record {
  length = 0;
  longest = at-stop (continue_number last) b xs (λ w. ap (λ t. t && continue_number b w) e) refl;
  place = omega arith;
}

pub number-ends : (last i : ℕ) (xs : List ℕ) → NumberEnds last i xs (number_from last i xs)
number-ends last i [] = record { length = 0; longest = at-end (continue_number last) refl; place = omega arith }
number-ends last i (b ∷ xs) = number-by last i b xs (go_on last b) refl (number-ends b (i + 1) xs)

-- comments, where `*` may stand before the text
abbrev pub ends_behind : Bool → List ℕ → Bool
ends_behind true w = ends_first (42 ∷ w)
ends_behind false w = ends_first w

abbrev pub open_behind : Bool → List ℕ → Bool
open_behind true w = not (has_end (42 ∷ w))
open_behind false w = not (has_end w)

ends-unstarred : (b : ℕ) (w : List ℕ) (t : Bool) → (b == 42) ≡ t → ends_first (b ∷ w) ≡ ends_behind t w
ends-unstarred b w true e = ap (λ c. ends_first (c ∷ w)) (eqb-true b 42 e)
ends-unstarred b [] false e = ap (λ t. cond (t && false) (0 == 1) false) (ne_eqb 42 b (λ h. eqb-false b 42 e (sym h)))
ends-unstarred b (c ∷ w) false e =
    ap (λ t. cond (t && ((47 == c) && true)) (length (c ∷ w) == 1) (ends_first (c ∷ w))) (ne_eqb 42 b (λ h. eqb-false b 42 e (sym h)))

open-unstarred : (b : ℕ) (w : List ℕ) (t : Bool) → (b == 42) ≡ t → not (has_end (b ∷ w)) ≡ open_behind t w
open-unstarred b w true e = ap (λ c. not (has_end (c ∷ w))) (eqb-true b 42 e)
open-unstarred b [] false e = ap (λ t. not ((t && false) || false)) (ne_eqb 42 b (λ h. eqb-false b 42 e (sym h)))
open-unstarred b (c ∷ w) false e =
    ap (λ t. not ((t && ((47 == c) && true)) || has_end (c ∷ w))) (ne_eqb 42 b (λ h. eqb-false b 42 e (sym h)))

ends-on : (star : Bool) (b : ℕ) (w : List ℕ) → (star && b == 47) ≡ false → ends_behind star (b ∷ w) ≡ ends_behind (b == 42) w
ends-on false b w e = ends-unstarred b w (b == 42) refl
ends-on true b w e =
    ap (λ t. cond (t && true) (length (b ∷ w) == 1) (ends_first (b ∷ w))) (ne_eqb 47 b (λ h. eqb-false b 47 e (sym h)))
    ∙ ends-unstarred b w (b == 42) refl

open-on : (star : Bool) (b : ℕ) (w : List ℕ) → (star && b == 47) ≡ false → open_behind star (b ∷ w) ≡ open_behind (b == 42) w
open-on false b w e = open-unstarred b w (b == 42) refl
open-on true b w e =
    ap (λ t. not ((t && true) || has_end (b ∷ w))) (ne_eqb 47 b (λ h. eqb-false b 47 e (sym h)))
    ∙ open-unstarred b w (b == 42) refl

length-one : (w : List ℕ) → (suc (length w) == 1) ≡ (length w == 0)
length-one [] = refl
length-one (b ∷ w) =
    let more : (suc (suc (length w)) == 1) ≡ false = ne_eqb (suc (suc (length w))) 1 (λ h. absurd (omega (arith, h))) in
    let some : (suc (length w) == 0) ≡ false = ne_eqb (suc (length w)) 0 (λ h. absurd (omega (arith, h))) in
    more ∙ sym some

ends-here : (star : Bool) (b : ℕ) (w : List ℕ) → (star && b == 47) ≡ true → ends_behind star (b ∷ w) ≡ (length w == 0)
ends-here false b w e = absurd (both_ways false refl e)
ends-here true b w e = ap (λ c. ends_first (42 ∷ c ∷ w)) (eqb-true b 47 e) ∙ length-one w

open-here : (star : Bool) (b : ℕ) (w : List ℕ) → (star && b == 47) ≡ true → open_behind star (b ∷ w) ≡ false
open-here false b w e = absurd (both_ways false refl e)
open-here true b w e = ap (λ c. not (has_end (42 ∷ c ∷ w))) (eqb-true b 47 e)

unclosed : (star : Bool) → ends_behind star [] ≡ false
unclosed true = refl
unclosed false = refl

empty_open : (star : Bool) → open_behind star [] ≡ true
empty_open true = refl
empty_open false = refl

comment-by : (star : Bool) (i b : ℕ) (xs : List ℕ) (t : Bool) → (star && b == 47) ≡ t → EndsAt (ends_behind (b == 42)) (open_behind (b == 42)) (i + 1) xs (comment_from (b == 42) (i + 1) xs) → EndsAt (ends_behind star) (open_behind star) i (b ∷ xs) (cond t (Closed (i + 1)) (comment_from (b == 42) (i + 1) xs))
comment-by star i b xs true e h =
    ends-close (ends_behind star) (open_behind star) i (unclosed star) (empty_open star) b xs (λ w. ends-here star b w e) (λ w. open-here star b w e)
comment-by star i b xs false e h =
    ends-cons (ends_behind star) (open_behind star) i (unclosed star) (ends_behind (b == 42)) (open_behind (b == 42)) b xs
    (λ w. ends-on star b w e) (λ w. open-on star b w e) (comment_from (b == 42) (i + 1) xs) h

pub comment-ends : (star : Bool) (i : ℕ) (xs : List ℕ) → EndsAt (ends_behind star) (open_behind star) i xs (comment_from star i xs)
comment-ends star i [] = ends-end (ends_behind star) (open_behind star) i (unclosed star) (empty_open star)
comment-ends star i (b ∷ xs) = comment-by star i b xs (star && b == 47) refl (comment-ends (b == 42) (i + 1) xs)

-- quoted pieces, where an escaping backslash may stand before the text
module _ (quote : ℕ) where
  abbrev pub closes_behind : Bool → List ℕ → Bool
  closes_behind true w = is_closed_behind quote w
  closes_behind false w = is_closed quote w

  abbrev pub goes_on_behind : Bool → List ℕ → Bool
  goes_on_behind true w = is_unclosed_behind quote w
  goes_on_behind false w = is_unclosed quote w

  not_closed : (escaped : Bool) → closes_behind escaped [] ≡ false
  not_closed true = refl
  not_closed false = refl

  empty_goes_on : (escaped : Bool) → goes_on_behind escaped [] ≡ true
  empty_goes_on true = refl
  empty_goes_on false = refl

  module _ (sane : (10 == quote) ≡ false) where
    closes-newline : (escaped : Bool) (w : List ℕ) → closes_behind escaped (10 ∷ w) ≡ false
    closes-newline true w = refl
    closes-newline false w = ap (λ t. cond t (length w == 0) false) sane

    goes_on-newline : (escaped : Bool) (w : List ℕ) → goes_on_behind escaped (10 ∷ w) ≡ false
    goes_on-newline true w = refl
    goes_on-newline false w = and_right (not (10 == quote)) false refl

    quote-newline : (escaped : Bool) (i b : ℕ) (xs : List ℕ) → (b == 10) ≡ true → EndsAt (closes_behind escaped) (goes_on_behind escaped) i (b ∷ xs) (Open i)
    quote-newline escaped i b xs e =
        ends-stop (closes_behind escaped) (goes_on_behind escaped) i (not_closed escaped) (empty_goes_on escaped) b xs
        (λ w. ap (λ c. closes_behind escaped (c ∷ w)) (eqb-true b 10 e) ∙ closes-newline escaped w)
        (λ w. ap (λ c. goes_on_behind escaped (c ∷ w)) (eqb-true b 10 e) ∙ goes_on-newline escaped w)

    closes-here : (escaped : Bool) (b : ℕ) (w : List ℕ) → (not escaped && b == quote) ≡ true → closes_behind escaped (b ∷ w) ≡ (length w == 0)
    closes-here true b w e = absurd (both_ways false refl e)
    closes-here false b w e =
        ap (λ t. cond t (length w == 0) (cond (b == 92) (is_closed_behind quote w) (not (b == 10) && is_closed quote w))) e

    goes_on-here : (escaped : Bool) (b : ℕ) (w : List ℕ) → (not escaped && b == quote) ≡ true → goes_on_behind escaped (b ∷ w) ≡ false
    goes_on-here true b w e = absurd (both_ways false refl e)
    goes_on-here false b w e =
        ap (λ t. not t && cond (b == 92) (is_unclosed_behind quote w) (not (b == 10) && is_unclosed quote w)) e

    closes-plain : (b : ℕ) (w : List ℕ) (t : Bool) → (b == 92) ≡ t → (b == 10) ≡ false → cond (b == 92) (is_closed_behind quote w) (not (b == 10) && is_closed quote w) ≡ closes_behind t w
    closes-plain b w true e n = ap (λ t. cond t (is_closed_behind quote w) (not (b == 10) && is_closed quote w)) e
    closes-plain b w false e n =
        ap (λ t. cond t (is_closed_behind quote w) (not (b == 10) && is_closed quote w)) e ∙ ap (λ t. not t && is_closed quote w) n

    goes_on-plain : (b : ℕ) (w : List ℕ) (t : Bool) → (b == 92) ≡ t → (b == 10) ≡ false → cond (b == 92) (is_unclosed_behind quote w) (not (b == 10) && is_unclosed quote w) ≡ goes_on_behind t w
    goes_on-plain b w true e n = ap (λ t. cond t (is_unclosed_behind quote w) (not (b == 10) && is_unclosed quote w)) e
    goes_on-plain b w false e n =
        ap (λ t. cond t (is_unclosed_behind quote w) (not (b == 10) && is_unclosed quote w)) e ∙ ap (λ t. not t && is_unclosed quote w) n

    closes-on : (escaped : Bool) (b : ℕ) (w : List ℕ) → (b == 10) ≡ false → (not escaped && b == quote) ≡ false → closes_behind escaped (b ∷ w) ≡ closes_behind (not escaped && b == 92) w
    closes-on true b w n e = ap (λ t. not t && is_closed quote w) n
    closes-on false b w n e =
        ap (λ t. cond t (length w == 0) (cond (b == 92) (is_closed_behind quote w) (not (b == 10) && is_closed quote w))) e
        ∙ closes-plain b w (b == 92) refl n

    goes_on-on : (escaped : Bool) (b : ℕ) (w : List ℕ) → (b == 10) ≡ false → (not escaped && b == quote) ≡ false → goes_on_behind escaped (b ∷ w) ≡ goes_on_behind (not escaped && b == 92) w
    goes_on-on true b w n e = ap (λ t. not t && is_unclosed quote w) n
    goes_on-on false b w n e =
        ap (λ t. not t && cond (b == 92) (is_unclosed_behind quote w) (not (b == 10) && is_unclosed quote w)) e
        ∙ goes_on-plain b w (b == 92) refl n

    quote-by : (escaped : Bool) (i b : ℕ) (xs : List ℕ) (s t : Bool) → (b == 10) ≡ s → (not escaped && b == quote) ≡ t → EndsAt (closes_behind (not escaped && b == 92)) (goes_on_behind (not escaped && b == 92)) (i + 1) xs (quote_from quote (not escaped && b == 92) (i + 1) xs) → EndsAt (closes_behind escaped) (goes_on_behind escaped) i (b ∷ xs) (cond s (Open i) (cond t (Closed (i + 1)) (quote_from quote (not escaped && b == 92) (i + 1) xs)))
    quote-by escaped i b xs true t n e h = quote-newline escaped i b xs n
    quote-by escaped i b xs false true n e h =
        ends-close (closes_behind escaped) (goes_on_behind escaped) i (not_closed escaped) (empty_goes_on escaped) b xs
        (λ w. closes-here escaped b w e) (λ w. goes_on-here escaped b w e)
    quote-by escaped i b xs false false n e h =
        ends-cons (closes_behind escaped) (goes_on_behind escaped) i (not_closed escaped) (closes_behind (not escaped && b == 92))
        (goes_on_behind (not escaped && b == 92)) b xs (λ w. closes-on escaped b w n e) (λ w. goes_on-on escaped b w n e)
        (quote_from quote (not escaped && b == 92) (i + 1) xs) h

    pub quote-ends : (escaped : Bool) (i : ℕ) (xs : List ℕ) → EndsAt (closes_behind escaped) (goes_on_behind escaped) i xs (quote_from quote escaped i xs)
    quote-ends escaped i [] =
        ends-end (closes_behind escaped) (goes_on_behind escaped) i (not_closed escaped) (empty_goes_on escaped)
    quote-ends escaped i (b ∷ xs) =
        quote-by escaped i b xs (b == 10) (not escaped && b == quote) refl refl (quote-ends (not escaped && b == 92) (i + 1) xs)
