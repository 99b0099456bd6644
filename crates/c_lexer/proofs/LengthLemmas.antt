-- The lengths of pieces, from their first bytes and what the scans find behind them.
use Rattle.std.proofs.Common.{◌≡◌, ◌≢◌, ℕ, zero, suc, ◌+◌, ◌-◌, ◌<◌, ◌≤◌, ◌==◌, Bool, true, false, not, ◌&&◌, ◌||◌, List, [], ◌∷◌, length, get_or, take, drop, map, refl, sym, ap, subst, ◌∙◌, ⊎_elim, arith}
use Rattle.std.specs.Prelude.{nat_le, nat_eq}
use Rattle.std.specs.List.{prefix_len, list_all, list_any, starts_with}
use Rattle.std.specs.Str.{bytes_eq}
use Rattle.std.proofs.lemmas.Bool.{both_ways, ne_eqb, eq-eqb, eqb-true, leb-true, le-leb, and_parts, and_left, and_right, or_from, cases_Bool, cases_lt}
use Rattle.std.proofs.Common.{length-drop}
use Rattle.std.proofs.lemmas.List.{length-take-le, take_all}
use Rattle.std.proofs.lemmas.Slice.Eq.{bytes_eq-Decides}
use Rattle.c_names.specs.Names.{is_nondigit, is_digit, is_word_byte, is_identifier}
use Rattle.c_text.specs.Constants.{continue_number, begin_with_digit, is_number, is_closed, is_unclosed, is_quoted, is_open_quoted}
use Rattle.c_text.specs.Pieces.{is_line_comment, is_block_comment, is_open_comment, punctuators, is_punctuator}
use Rattle.c_lexer.specs.declared.scans.End.{End}
use Rattle.c_lexer.specs.declared.scans.End.TheVariants.{Closed, Open}
use Rattle.c_lexer.specs.declared.lengths.Lengths.{Lengths}
use Rattle.c_lexer.specs.Longest.{IsNever, IsLongestOf}
use Rattle.c_lexer.specs.Scans.{number_from, comment_from, quote_from}
use Rattle.c_lexer.specs.Cuts.{AreLengths}
use Rattle.c_lexer.specs.Ends.{shifted}
use Rattle.c_lexer.proofs.LongestLemmas.{at-cons, never-cons, never-first, of-at, of-never, of-cons, run-at, EndsAt, ends-cons}
use Rattle.c_lexer.proofs.ScanLemmas.{number-ends, comment-ends, quote-ends, ends_behind, open_behind}

-- what stands behind the first k bytes
pub rest-is : (k : ℕ) (text : List ℕ) → take (length text - k) (drop k text) ≡ drop k text
rest-is k text = take_all (length text - k) (drop k text) (omega (arith, length-drop k text))

-- no text with more bytes is among these
eq-long : (w p : List ℕ) → length p < length w → bytes_eq w p ≡ false
eq-long w p l =
    ⊎_elim (λ e. let same : length w ≡ length p = ap length ((bytes_eq-Decides w p).0 e) in absurd (omega (arith, same, l)))
    (λ e. e) (cases_Bool (bytes_eq w p))

any-long : (ps : List (List ℕ)) (w : List ℕ) (k : ℕ) → list_all (λ p. nat_le (length p) k) ps ≡ true → k < length w → list_any (bytes_eq w) ps ≡ false
any-long [] w k h l = refl
any-long (p ∷ ps) w k h l =
    let parts = and_parts (nat_le (length p) k) (list_all (λ q. nat_le (length q) k) ps) h in
    let within : length p ≤ k = leb-true (length p) k parts.0 in
    or_from (bytes_eq w p) (list_any (bytes_eq w) ps) (eq-long w p (omega (arith, within, l))) (any-long ps w k parts.1 l)

-- a test that no text of more than k bytes passes
module _ (test : List ℕ → Bool) (k : ℕ) (long : (w : List ℕ) → k < length w → test w ≡ false) (text : List ℕ) (n : ℕ) where
  fails-upto : ((m : ℕ) → n < m → m ≤ k → m ≤ length text → test (take m text) ≡ false) → (m : ℕ) → n < m → m ≤ length text → test (take m text) ≡ false
  fails-upto h m l w =
      ⊎_elim (λ above. let same = length-take-le m text w in long (take m text) (omega (arith, same, above)))
      (λ within. h m l within w) (cases_lt k m)

  pub longest-upto : n ≤ length text → (0 < n → test (take n text) ≡ true) → ((m : ℕ) → n < m → m ≤ k → m ≤ length text → test (take m text) ≡ false) → IsLongestOf test text n
  longest-upto within passes h = record { within = within; passes = passes; fails = fails-upto h }

-- texts that begin with two given bytes
pub starts-split : (x y : ℕ) (text : List ℕ) → starts_with nat_eq text (x ∷ y ∷ []) ≡ true → text ≡ x ∷ y ∷ drop 2 text
starts-split x y [] h = absurd (both_ways false refl h)
starts-split x y (b ∷ []) h = absurd (both_ways false refl ((and_parts (x == b) false h).1))
starts-split x y (b ∷ c ∷ xs) h =
    let p = and_parts (x == b) ((y == c) && true) h in
    let q = and_parts (y == c) true p.1 in
    ap (λ t. t ∷ c ∷ xs) (sym (eqb-true x b p.0)) ∙ ap (λ t. x ∷ t ∷ xs) (sym (eqb-true y c q.0))

pub starts-length : (x y : ℕ) (text : List ℕ) → starts_with nat_eq text (x ∷ y ∷ []) ≡ true → 2 ≤ length text
starts-length x y text h =
    let split : length text ≡ suc (suc (length (drop 2 text))) = ap length (starts-split x y text h) in omega (arith, split)

starts-not : (x y : ℕ) (text : List ℕ) → starts_with nat_eq text (x ∷ y ∷ []) ≡ false → (m : ℕ) → starts_with nat_eq (take m text) (x ∷ y ∷ []) ≡ false
starts-not x y text h zero = refl
starts-not x y [] h (suc m) = refl
starts-not x y (b ∷ xs) h (suc zero) = and_right (x == b) false refl
starts-not x y (b ∷ []) h (suc (suc m)) = and_right (x == b) false refl
starts-not x y (b ∷ c ∷ xs) h (suc (suc m)) = h

pub line_comment-first : (text : List ℕ) (n : ℕ) → starts_with nat_eq text (47 ∷ 47 ∷ []) ≡ true → n ≡ 2 + prefix_len (λ b. not (b == 10)) (drop 2 text) → IsLongestOf is_line_comment text n
line_comment-first text n h is =
    let rest = drop 2 text in
    let k = prefix_len (λ b. not (b == 10)) rest in
    subst (λ t. IsLongestOf is_line_comment t n) (sym (starts-split 47 47 text h))
    (of-cons is_line_comment (λ w. is_line_comment (47 ∷ w)) 47 (47 ∷ rest) (suc k) n (omega (arith, is)) (λ w. refl)
    (at-cons (λ w. is_line_comment (47 ∷ w)) (list_all (λ b. not (b == 10))) 47 rest (λ w. refl) k (run-at (λ b. not (b == 10)) rest)))

pub line_comment-none : (text : List ℕ) → starts_with nat_eq text (47 ∷ 47 ∷ []) ≡ false → IsLongestOf is_line_comment text 0
line_comment-none text h =
    of-never is_line_comment text (λ m w. and_left (starts_with nat_eq (take m text) (47 ∷ 47 ∷ [])) (list_all (λ b. not (b == 10)) (take m text)) (starts-not 47 47 text h m))

-- ends
pub ends-shift : (closed open_part : List ℕ → Bool) (i : ℕ) (xs : List ℕ) (end : End) → EndsAt closed open_part 0 xs end → EndsAt closed open_part i xs (shifted i end)
ends-shift closed open_part i xs (Closed n) h = record { before = h.before; is_closed = h.is_closed; is_open = h.is_open; place = omega (arith, h.place) }
ends-shift closed open_part i xs (Open n) h = record { before = h.before; never = h.never; is_open = h.is_open; place = omega (arith, h.place) }

pub lengths-of : (closed open_part : List ℕ → Bool) (text : List ℕ) (end : End) (l : Lengths) → EndsAt closed open_part 0 text end → AreLengths end l → IsLongestOf closed text l.closed × IsLongestOf open_part text l.unclosed
lengths-of closed open_part text (Closed n) l h a =
    let whole : suc h.before ≡ l.closed = omega (arith, h.place, a.0) in
    let part : h.before ≡ l.unclosed = omega (arith, h.place, a.1) in (
      subst (λ k. IsLongestOf closed text k) whole (of-at closed text (suc h.before) h.is_closed),
      subst (λ k. IsLongestOf open_part text k) part (of-at open_part text h.before h.is_open),
    )
lengths-of closed open_part text (Open n) l h a =
    let part : h.before ≡ l.unclosed = omega (arith, h.place, a.1) in (
      subst (λ k. IsLongestOf closed text k) (sym a.0) (of-never closed text h.never),
      subst (λ k. IsLongestOf open_part text k) part (of-at open_part text h.before h.is_open),
    )

-- comments
block_from : (rest : List ℕ) → EndsAt is_block_comment is_open_comment 0 (47 ∷ 42 ∷ rest) (shifted 2 (comment_from false 0 rest))
block_from rest =
    let end = shifted 2 (comment_from false 0 rest) in
    ends-cons is_block_comment is_open_comment 0 refl (λ w. is_block_comment (47 ∷ w)) (λ w. is_open_comment (47 ∷ w)) 47 (42 ∷ rest) (λ w. refl) (λ w. refl) end
    (ends-cons (λ w. is_block_comment (47 ∷ w)) (λ w. is_open_comment (47 ∷ w)) 1 refl (ends_behind false) (open_behind false) 42 rest (λ w. refl) (λ w. refl) end
    (ends-shift (ends_behind false) (open_behind false) 2 rest (comment_from false 0 rest) (comment-ends false 0 rest)))

pub comment-first : (text : List ℕ) (l : Lengths) → starts_with nat_eq text (47 ∷ 42 ∷ []) ≡ true → (end : End) → end ≡ comment_from false 0 (take (length text - 2) (drop 2 text)) → AreLengths (shifted 2 end) l → IsLongestOf is_block_comment text l.closed × IsLongestOf is_open_comment text l.unclosed
comment-first text l h found is b =
    let rest = drop 2 text in
    let end = shifted 2 (comment_from false 0 rest) in
    let a : AreLengths end l = subst (λ e. AreLengths (shifted 2 e) l) (is ∙ ap (comment_from false 0) (rest-is 2 text)) b in
    subst (λ t. IsLongestOf is_block_comment t l.closed × IsLongestOf is_open_comment t l.unclosed) (sym (starts-split 47 42 text h))
    (lengths-of is_block_comment is_open_comment (47 ∷ 42 ∷ rest) end l (block_from rest) a)

pub block-none : (text : List ℕ) → starts_with nat_eq text (47 ∷ 42 ∷ []) ≡ false → IsLongestOf is_block_comment text 0
block-none text h = of-never is_block_comment text (λ m w. and_left (starts_with nat_eq (take m text) (47 ∷ 42 ∷ [])) _ (starts-not 47 42 text h m))

pub open-none : (text : List ℕ) → starts_with nat_eq text (47 ∷ 42 ∷ []) ≡ false → IsLongestOf is_open_comment text 0
open-none text h = of-never is_open_comment text (λ m w. and_left (starts_with nat_eq (take m text) (47 ∷ 42 ∷ [])) _ (starts-not 47 42 text h m))

-- names
pub name-first : (text : List ℕ) (n : ℕ) → 1 ≤ length text → is_nondigit (get_or text 0 0) ≡ true → n ≡ 1 + prefix_len is_word_byte (drop 1 text) → IsLongestOf is_identifier text n
name-first [] n l e is = absurd (omega (arith, l))
name-first (b ∷ xs) n l e is =
    of-cons is_identifier (list_all is_word_byte) b xs (prefix_len is_word_byte xs) n (omega (arith, is)) (λ w. ap (λ t. t && list_all is_word_byte w) e)
    (run-at is_word_byte xs)

pub name-none : (text : List ℕ) → 1 ≤ length text → is_nondigit (get_or text 0 0) ≡ false → IsLongestOf is_identifier text 0
name-none [] l e = absurd (omega (arith, l))
name-none (b ∷ xs) l e =
    of-never is_identifier (b ∷ xs) (never-first is_identifier b xs (λ w. ap (λ t. t && list_all is_word_byte w) e) refl)

-- numbers
pub digits-first : (text : List ℕ) (n : ℕ) → 1 ≤ length text → is_digit (get_or text 0 0) ≡ true → n ≡ 1 + number_from (get_or text 0 0) 0 (drop 1 text) → IsLongestOf begin_with_digit text n
digits-first [] n l e is = absurd (omega (arith, l))
digits-first (b ∷ xs) n l e is =
    let ends = number-ends b 0 xs in
    of-cons begin_with_digit (continue_number b) b xs ends.length n (omega (arith, is, ends.place)) (λ w. ap (λ t. t && continue_number b w) e) ends.longest

pub digits-none : (text : List ℕ) → 1 ≤ length text → is_digit (get_or text 0 0) ≡ false → IsLongestOf begin_with_digit text 0
digits-none [] l e = absurd (omega (arith, l))
digits-none (b ∷ xs) l e =
    of-never begin_with_digit (b ∷ xs) (never-first begin_with_digit b xs (λ w. ap (λ t. t && continue_number b w) e) refl)

number-point_at : (xs : List ℕ) (k n : ℕ) → IsLongestOf begin_with_digit xs k → 0 < k → n ≡ 1 + k → IsLongestOf is_number (46 ∷ xs) n
number-point_at xs k n h some is =
    of-cons is_number begin_with_digit 46 xs k n (omega (arith, is)) (λ w. refl) (record { within = h.within; passes = h.passes some; fails = h.fails })

pub number-point : (text : List ℕ) (k n : ℕ) → 1 ≤ length text → get_or text 0 0 ≡ 46 → IsLongestOf begin_with_digit (drop 1 text) k → 0 < k → n ≡ 1 + k → IsLongestOf is_number text n
number-point [] k n l e h some is = absurd (omega (arith, l))
number-point (b ∷ xs) k n l e h some is = subst (λ c. IsLongestOf is_number (c ∷ xs) n) (sym e) (number-point_at xs k n h some is)

never-digits : (xs : List ℕ) → IsLongestOf begin_with_digit xs 0 → IsNever begin_with_digit xs
never-digits xs h zero w = refl
never-digits xs h (suc m) w = h.fails (suc m) (omega arith) w

pub number-lone_point : (text : List ℕ) (k : ℕ) → 1 ≤ length text → get_or text 0 0 ≡ 46 → IsLongestOf begin_with_digit (drop 1 text) k → k ≡ 0 → IsLongestOf is_number text 0
number-lone_point [] k l e h none = absurd (omega (arith, l))
number-lone_point (b ∷ xs) k l e h none =
    subst (λ c. IsLongestOf is_number (c ∷ xs) 0) (sym e)
    (of-never is_number (46 ∷ xs) (never-cons is_number begin_with_digit 46 xs (λ w. refl) refl
    (never-digits xs (subst (λ j. IsLongestOf begin_with_digit xs j) none h))))

or-false : (x : Bool) → (x || false) ≡ x
or-false true = refl
or-false false = refl

plain-number : (b : ℕ) (xs : List ℕ) → (b == 46) ≡ false → (m : ℕ) → is_number (take m (b ∷ xs)) ≡ begin_with_digit (take m (b ∷ xs))
plain-number b xs e zero = refl
plain-number b xs e (suc m) =
    ap (λ t. begin_with_digit (b ∷ take m xs) || (t && begin_with_digit (take m xs))) e ∙ or-false (begin_with_digit (b ∷ take m xs))

pub number-plain : (text : List ℕ) (n : ℕ) → 1 ≤ length text → get_or text 0 0 ≢ 46 → IsLongestOf begin_with_digit text n → IsLongestOf is_number text n
number-plain [] n l e h = absurd (omega (arith, l))
number-plain (b ∷ xs) n l e h =
    let ne = ne_eqb b 46 e in
    record {
      within = h.within;
      passes = λ some. plain-number b xs ne n ∙ h.passes some;
      fails = λ m above w. plain-number b xs ne m ∙ h.fails m above w;
    }

pub number-with_point : (text : List ℕ) (k n : ℕ) → 1 ≤ length text → get_or text 0 0 ≡ 46 → IsLongestOf begin_with_digit (drop 1 text) k → (k ≡ 0 → n ≡ 0) → (0 < k → n ≡ 1 + k) → IsLongestOf is_number text n
number-with_point text k n l e h none some =
    ⊎_elim (λ is. number-point text k n l e h is (some is))
    (λ is. let nothing : k ≡ 0 = omega (arith, is) in subst (λ m. IsLongestOf is_number text m) (sym (none nothing)) (number-lone_point text k l e h nothing)) (cases_lt 0 k)

-- quoted pieces
pub quoted-first : (quote : ℕ) (text : List ℕ) (l : Lengths) → quote ≢ 10 → 1 ≤ length text → get_or text 0 0 ≡ quote → (end : End) → end ≡ quote_from quote false 0 (take (length text - 1) (drop 1 text)) → AreLengths (shifted 1 end) l → IsLongestOf (is_quoted quote) text l.closed × IsLongestOf (is_open_quoted quote) text l.unclosed
quoted-first quote [] l sane some e found at c = absurd (omega (arith, some))
quoted-first quote (b ∷ xs) l sane some e found at c =
    let is : (b == quote) ≡ true = eq-eqb b quote e in
    let end = quote_from quote false 0 xs in
    let a : AreLengths (shifted 1 end) l = subst (λ x. AreLengths (shifted 1 x) l) (at ∙ ap (quote_from quote false 0) (rest-is 1 (b ∷ xs))) c in
    let ends = quote-ends quote (ne_eqb 10 quote (λ h. sane (sym h))) false 0 xs in
    lengths-of (is_quoted quote) (is_open_quoted quote) (b ∷ xs) (shifted 1 end) l
    (ends-cons (is_quoted quote) (is_open_quoted quote) 0 refl (is_closed quote) (is_unclosed quote) b xs (λ w. ap (λ t. t && is_closed quote w) is) (λ w. ap (λ t. t && is_unclosed quote w) is) (shifted 1 end)
    (ends-shift (is_closed quote) (is_unclosed quote) 1 xs end ends)) a

pub quoted-none : (quote : ℕ) (text : List ℕ) → 1 ≤ length text → get_or text 0 0 ≢ quote → IsLongestOf (is_quoted quote) text 0
quoted-none quote [] some e = absurd (omega (arith, some))
quoted-none quote (b ∷ xs) some e =
    of-never (is_quoted quote) (b ∷ xs) (never-first (is_quoted quote) b xs (λ w. ap (λ t. t && is_closed quote w) (ne_eqb b quote e)) refl)

pub open_quoted-none : (quote : ℕ) (text : List ℕ) → 1 ≤ length text → get_or text 0 0 ≢ quote → IsLongestOf (is_open_quoted quote) text 0
open_quoted-none quote [] some e = absurd (omega (arith, some))
open_quoted-none quote (b ∷ xs) some e =
    of-never (is_open_quoted quote) (b ∷ xs) (never-first (is_open_quoted quote) b xs (λ w. ap (λ t. t && is_unclosed quote w) (ne_eqb b quote e)) refl)

-- punctuators
pub list_any-map : {X Y : Type 0} (p : Y → Bool) (f : X → Y) (xs : List X) → list_any (λ x. p (f x)) xs ≡ list_any p (map f xs)
list_any-map p f [] = refl
list_any-map p f (x ∷ xs) = ap (λ t. p (f x) || t) (list_any-map p f xs)

abbrev begins : List ℕ → ℕ → Bool
begins text n = nat_le n (length text) && is_punctuator (take n text)

punctuator-long : (w : List ℕ) → 3 < length w → is_punctuator w ≡ false
punctuator-long w l = any-long punctuators w 3 refl l

no-punctuator : (text : List ℕ) (m : ℕ) → begins text m ≡ false → m ≤ length text → is_punctuator (take m text) ≡ false
no-punctuator text m h w = sym (ap (λ t. t && is_punctuator (take m text)) (le-leb m (length text) w)) ∙ h

pub punctuator-at : (text : List ℕ) (n : ℕ) → begins text n ≡ true → ((m : ℕ) → n < m → m ≤ 3 → begins text m ≡ false) → IsLongestOf is_punctuator text n
punctuator-at text n h none =
    let parts = and_parts (nat_le n (length text)) (is_punctuator (take n text)) h in
    longest-upto is_punctuator 3 punctuator-long text n (leb-true n (length text) parts.0) (λ some. parts.1)
    (λ m above within w. no-punctuator text m (none m above within) w)

pub punctuator-three : (text : List ℕ) → begins text 3 ≡ true → IsLongestOf is_punctuator text 3
punctuator-three text h = punctuator-at text 3 h (λ m above within. absurd (omega (arith, above, within)))

above-two : (text : List ℕ) → begins text 3 ≡ false → (m : ℕ) → 2 < m → m ≤ 3 → begins text m ≡ false
above-two text h m above within = subst (λ k. begins text k ≡ false) (let e : 3 ≡ m = omega (arith, above, within) in e) h

pub punctuator-two : (text : List ℕ) → begins text 3 ≡ false → begins text 2 ≡ true → IsLongestOf is_punctuator text 2
punctuator-two text h two = punctuator-at text 2 two (above-two text h)

above-one : (text : List ℕ) → begins text 3 ≡ false → begins text 2 ≡ false → (m : ℕ) → 1 < m → m ≤ 3 → begins text m ≡ false
above-one text h two m above within =
    ⊎_elim (λ more. above-two text h m more within) (λ less. subst (λ k. begins text k ≡ false) (let e : 2 ≡ m = omega (arith, above, less) in e) two) (cases_lt 2 m)

pub punctuator-one : (text : List ℕ) → begins text 3 ≡ false → begins text 2 ≡ false → begins text 1 ≡ true → IsLongestOf is_punctuator text 1
punctuator-one text h two one = punctuator-at text 1 one (above-one text h two)

above-zero : (text : List ℕ) → begins text 3 ≡ false → begins text 2 ≡ false → begins text 1 ≡ false → (m : ℕ) → 0 < m → m ≤ 3 → begins text m ≡ false
above-zero text h two one m above within =
    ⊎_elim (λ more. above-one text h two m more within) (λ less. subst (λ k. begins text k ≡ false) (let e : 1 ≡ m = omega (arith, above, less) in e) one) (cases_lt 1 m)

pub punctuator-none : (text : List ℕ) → begins text 3 ≡ false → begins text 2 ≡ false → begins text 1 ≡ false → IsLongestOf is_punctuator text 0
punctuator-none text h two one =
    longest-upto is_punctuator 3 punctuator-long text 0 (omega arith) (λ some. absurd (omega (arith, some)))
    (λ m above within w. no-punctuator text m (above-zero text h two one m above within) w)
