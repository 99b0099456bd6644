-- Where a name begins or ends, no piece goes on.
use Rattle.std.proofs.Common.{◌≡◌, ℕ, suc, ◌<◌, ◌≤◌, ◌==◌, Bool, true, false, not, cond, ◌&&◌, ◌||◌, List, [], ◌∷◌, ◌++◌, length, codes, Option, Some, None, refl, sym, ap, ◌∙◌, ⊎_elim, arith, length-append}
use Rattle.std.specs.Prelude.{nat_le, nat_eq}
use Rattle.std.specs.List.{list_any, list_all, starts_with}
use Rattle.std.specs.Str.{bytes_eq}
use Rattle.std.proofs.lemmas.Bool.{false≢true, both_ways, eqb-true, leb-true, ne_eqb, and_parts, and_from, and_left, and_right, or_cases, or_parts, or_from, or_left, or_right, cond-true, cond-false, false_from_ne_true, not-true, not_from_false, cases_Bool}
use Rattle.std.proofs.lemmas.List.Folds.{list_all-append}
use Rattle.std.proofs.lemmas.Slice.Eq.{bytes_eq-Decides}
use Rattle.std.proofs.lemmas.Option.{none-some, same_Some}
use Rattle.c_names.specs.Names.{is_digit, is_nondigit, is_word_byte, is_identifier, is_keyword}
use Rattle.c_text.specs.declared.token.BadKind.TheVariants.{BadByte, OpenComment, OpenQuote}
use Rattle.c_text.specs.declared.token.TokenKind.{TokenKind}
use Rattle.c_text.specs.declared.token.TokenKind.TheVariants.{Name, Keyword, Number, Character, Text, Punctuator, Bad}
use Rattle.c_text.specs.Constants.{continue_number, begin_with_digit, is_number, is_integer, is_character, is_text, is_closed, is_closed_behind, is_unclosed, is_unclosed_behind, is_quoted, is_open_quoted}
use Rattle.c_text.specs.Pieces.{PieceKind, space, line_end, token, is_blank, is_newline, is_line_comment, has_end, ends_first, is_block_comment, is_open_comment, punctuators, is_punctuator, bad_unless, piece_of}

-- ---- bytes of names

pub nondigit-is_not : (b c : ℕ) → is_nondigit b ≡ true → is_nondigit c ≡ false → (c == b) ≡ false
nondigit-is_not b c h none = ne_eqb c b (λ e. both_ways (is_nondigit c) none (ap is_nondigit e ∙ h))

pub nondigit-is_no : (b c : ℕ) → is_nondigit b ≡ true → is_nondigit c ≡ false → (b == c) ≡ false
nondigit-is_no b c h none = ne_eqb b c (λ e. both_ways (is_nondigit c) none (ap is_nondigit (sym e) ∙ h))

pub nondigit-is_word : (b : ℕ) → is_nondigit b ≡ true → is_word_byte b ≡ true
nondigit-is_word b h = or_left (is_nondigit b) (is_digit b) h

digit-below : (b : ℕ) → is_digit b ≡ true → b ≤ 57
digit-below b h = leb-true b 57 (and_parts (nat_le 48 b) (nat_le b 57) h).1

nondigit-above : (b : ℕ) → is_nondigit b ≡ true → 57 < b
nondigit-above b h =
    ⊎_elim
    (λ e. ⊎_elim (λ upper. let l = leb-true 65 b (and_parts (nat_le 65 b) (nat_le b 90) upper).0 in omega (arith, l)) (λ lower. let l = leb-true 97 b (and_parts (nat_le 97 b) (nat_le b 122) lower).0 in omega (arith, l))
    (or_cases (nat_le 65 b && nat_le b 90) (nat_le 97 b && nat_le b 122) e))
    (λ e. let is = eqb-true b 95 e in omega (arith, is)) (or_cases ((nat_le 65 b && nat_le b 90) || (nat_le 97 b && nat_le b 122)) (b == 95) h)

pub nondigit-no_digit : (b : ℕ) → is_nondigit b ≡ true → is_digit b ≡ false
nondigit-no_digit b h =
    false_from_ne_true (is_digit b) (λ e. let low = digit-below b e in let high = nondigit-above b h in omega (arith, low, high))

-- texts with a byte of a name are none of those without
has-append : (w : List ℕ) (b : ℕ) (rest : List ℕ) → is_nondigit b ≡ true → list_any is_nondigit (w ++ b ∷ rest) ≡ true
has-append [] b rest h = or_left (is_nondigit b) (list_any is_nondigit rest) h
has-append (x ∷ w) b rest h = or_right (is_nondigit x) (list_any is_nondigit (w ++ b ∷ rest)) (has-append w b rest h)

none-among : (w : List ℕ) (ps : List (List ℕ)) → list_any is_nondigit w ≡ true → list_all (λ p. not (list_any is_nondigit p)) ps ≡ true → list_any (bytes_eq w) ps ≡ false
none-among w [] h all = refl
none-among w (p ∷ ps) h all =
    let parts = and_parts (not (list_any is_nondigit p)) (list_all (λ q. not (list_any is_nondigit q)) ps) all in
    let first = false_from_ne_true (bytes_eq w p) (λ e. both_ways (list_any is_nondigit p) (not-true (list_any is_nondigit p) parts.0) (ap (list_any is_nondigit) (sym ((bytes_eq-Decides w p).0 e)) ∙ h)) in
    or_from (bytes_eq w p) (list_any (bytes_eq w) ps) first (none-among w ps h parts.1)

-- ---- what isn't a piece

pub record IsNoPiece (w : List ℕ) : Type 0 where
  pub newline : is_newline w ≡ false
  pub blank : is_blank w ≡ false
  pub line_comment : is_line_comment w ≡ false
  pub block_comment : is_block_comment w ≡ false
  pub identifier : is_identifier w ≡ false
  pub number : is_number w ≡ false
  pub character : is_quoted 39 w ≡ false
  pub text : is_quoted 34 w ≡ false
  pub punctuator : is_punctuator w ≡ false
  pub open_comment : is_open_comment w ≡ false
  pub open_character : is_open_quoted 39 w ≡ false
  pub open_text : is_open_quoted 34 w ≡ false
  pub one : (length w == 1) ≡ false

unless : (test : Bool) (kind : PieceKind) (others : Option PieceKind) → cond test (Some kind) others ≡ None → (test ≡ false) × (others ≡ None)
unless true kind others h = absurd (none-some kind (sym h))
unless false kind others h = (refl, h)

abbrev quoted : List ℕ → Option PieceKind
quoted w =
    cond (is_open_quoted 39 w || is_open_quoted 34 w) (Some (token (Bad OpenQuote))) (cond (length w == 1) (Some (token (Bad BadByte))) None)

abbrev signs : List ℕ → Option PieceKind
signs w = cond (is_punctuator w) (Some (token Punctuator)) (cond (is_open_comment w) (Some (token (Bad OpenComment))) (quoted w))

abbrev constants : List ℕ → Option PieceKind
constants w =
    cond (is_number w) (Some (token (bad_unless (is_integer w) Number)))
    (cond (is_quoted 39 w) (Some (token (bad_unless (is_character w) Character)))
    (cond (is_quoted 34 w) (Some (token (bad_unless (is_text w) Text))) (signs w)))

abbrev words : List ℕ → Option PieceKind
words w = cond (is_identifier w) (Some (token (cond (is_keyword w) Keyword Name))) (constants w)

pub no_piece : (w : List ℕ) → piece_of w ≡ None → IsNoPiece w
no_piece w h =
    let newline = unless (is_newline w) line_end (cond (is_blank w || is_line_comment w || is_block_comment w) (Some space) (words w)) h in
    let white = unless (is_blank w || is_line_comment w || is_block_comment w) space (words w) newline.1 in
    let comments = or_parts (is_blank w || is_line_comment w) (is_block_comment w) white.0 in
    let blanks = or_parts (is_blank w) (is_line_comment w) comments.0 in
    let names = unless (is_identifier w) _ (constants w) white.1 in
    let numbers = unless (is_number w) _ _ names.1 in
    let characters = unless (is_quoted 39 w) _ _ numbers.1 in
    let texts = unless (is_quoted 34 w) _ (signs w) characters.1 in
    let marks = unless (is_punctuator w) _ _ texts.1 in
    let opened = unless (is_open_comment w) _ (quoted w) marks.1 in
    let quotes = unless (is_open_quoted 39 w || is_open_quoted 34 w) _ _ opened.1 in
    let open_parts = or_parts (is_open_quoted 39 w) (is_open_quoted 34 w) quotes.0 in
    record {
      newline = newline.0;
      blank = blanks.0;
      line_comment = blanks.1;
      block_comment = comments.1;
      identifier = names.0;
      number = numbers.0;
      character = characters.0;
      text = texts.0;
      punctuator = marks.0;
      open_comment = opened.0;
      open_character = open_parts.0;
      open_text = open_parts.1;
      one = (unless (length w == 1) _ None quotes.1).0;
    }

pub no_piece-none : (w : List ℕ) → IsNoPiece w → piece_of w ≡ None
no_piece-none w h =
    let white = or_from (is_blank w || is_line_comment w) (is_block_comment w) (or_from (is_blank w) (is_line_comment w) h.blank h.line_comment) h.block_comment in
    let quotes = or_from (is_open_quoted 39 w) (is_open_quoted 34 w) h.open_character h.open_text in
    cond-false (is_newline w) _ _ h.newline
    ∙ cond-false (is_blank w || is_line_comment w || is_block_comment w) (Some space) (words w) white
    ∙ cond-false (is_identifier w) _ (constants w) h.identifier
    ∙ cond-false (is_number w) _ _ h.number
    ∙ cond-false (is_quoted 39 w) _ _ h.character
    ∙ cond-false (is_quoted 34 w) _ (signs w) h.text
    ∙ cond-false (is_punctuator w) _ _ h.punctuator
    ∙ cond-false (is_open_comment w) _ (quoted w) h.open_comment
    ∙ cond-false (is_open_quoted 39 w || is_open_quoted 34 w) _ _ quotes
    ∙ cond-false (length w == 1) _ None h.one

-- ---- a byte of a name behind something

module _ (b c : ℕ) (names_b : is_nondigit b ≡ true) (names_c : is_nondigit c ≡ true) (w : List ℕ) where
  all-word : (p : ℕ → Bool) (xs : List ℕ) → p b ≡ true → list_all p (xs ++ c ∷ w) ≡ true → list_all p (xs ++ b ∷ []) ≡ true
  all-word p xs here h =
      let parts = and_parts (list_all p xs) (list_all p (c ∷ w)) (sym (list_all-append p xs (c ∷ w)) ∙ h) in
      list_all-append p xs (b ∷ []) ∙ and_from (list_all p xs) (p b && true) parts.0 (and_from (p b) true here refl)

  lone-open : has_end (b ∷ []) ≡ false
  lone-open = or_from ((42 == b) && false) false (and_right (42 == b) false refl) refl

  no-end : (x : ℕ) → ((42 == x) && ((47 == b) && true)) ≡ false
  no-end x = and_right (42 == x) ((47 == b) && true) (and_left (47 == b) true (nondigit-is_not b 47 names_b refl))

  longer : (xs : List ℕ) → 1 ≤ length (xs ++ c ∷ w)
  longer xs = omega (arith, length-append xs (c ∷ w))

  not_one : (xs : List ℕ) → (suc (length (xs ++ c ∷ w)) == 1) ≡ false
  not_one xs = ne_eqb (suc (length (xs ++ c ∷ w))) 1 (λ e. let l = longer xs in absurd (omega (arith, l, e)))

  not_empty : (xs : List ℕ) → (length (xs ++ c ∷ w) == 0) ≡ false
  not_empty xs = ne_eqb (length (xs ++ c ∷ w)) 0 (λ e. let l = longer xs in absurd (omega (arith, l, e)))

  by-end : (y : ℕ) (ys : List ℕ) (t : Bool) → cond t (suc (length (ys ++ c ∷ w)) == 1) (ends_first (y ∷ (ys ++ c ∷ w))) ≡ true → (ends_first (y ∷ (ys ++ c ∷ w)) ≡ true → has_end (y ∷ (ys ++ b ∷ [])) ≡ false) → (t || has_end (y ∷ (ys ++ b ∷ []))) ≡ false
  by-end y ys true h others = absurd (both_ways (suc (length (ys ++ c ∷ w)) == 1) (not_one ys) h)
  by-end y ys false h others = others h

  ends-open : (xs : List ℕ) → ends_first (xs ++ c ∷ w) ≡ true → has_end (xs ++ b ∷ []) ≡ false
  ends-open [] h = lone-open
  ends-open (x ∷ []) h = or_from ((42 == x) && ((47 == b) && true)) (has_end (b ∷ [])) (no-end x) lone-open
  ends-open (x ∷ y ∷ ys) h = by-end y ys ((42 == x) && ((47 == y) && true)) h (ends-open (y ∷ ys))

  open-open : (xs : List ℕ) → has_end (xs ++ c ∷ w) ≡ false → has_end (xs ++ b ∷ []) ≡ false
  open-open [] h = lone-open
  open-open (x ∷ []) h = or_from ((42 == x) && ((47 == b) && true)) (has_end (b ∷ [])) (no-end x) lone-open
  open-open (x ∷ y ∷ ys) h =
      let t = (42 == x) && ((47 == y) && true) in
      let parts = or_parts t (has_end (y ∷ (ys ++ c ∷ w))) h in or_from t (has_end (y ∷ (ys ++ b ∷ []))) parts.0 (open-open (y ∷ ys) parts.1)

  number-on : (last : ℕ) (xs : List ℕ) → continue_number last (xs ++ c ∷ w) ≡ true → continue_number last (xs ++ b ∷ []) ≡ true
  number-on last [] h =
      and_from (is_word_byte b || b == 46 || _) true (or_left (is_word_byte b || b == 46) _ (or_left (is_word_byte b) (b == 46) (nondigit-is_word b names_b))) refl
  number-on last (x ∷ xs) h =
      let parts = and_parts _ (continue_number x (xs ++ c ∷ w)) h in and_from _ (continue_number x (xs ++ b ∷ [])) parts.0 (number-on x xs parts.1)

  digits-on : (xs : List ℕ) → begin_with_digit (xs ++ c ∷ w) ≡ true → begin_with_digit (xs ++ b ∷ []) ≡ true
  digits-on [] h = absurd (both_ways (is_digit c) (nondigit-no_digit c names_c) (and_parts (is_digit c) (continue_number c w) h).0)
  digits-on (x ∷ xs) h =
      let parts = and_parts (is_digit x) (continue_number x (xs ++ c ∷ w)) h in
      and_from (is_digit x) (continue_number x (xs ++ b ∷ [])) parts.0 (number-on x xs parts.1)

  module _ (quote : ℕ) (sane : is_nondigit quote ≡ false) where
    pick : (s t n none behind closed behind' open' : Bool) → none ≡ false → (behind ≡ true → behind' ≡ true) → (closed ≡ true → open' ≡ true) → cond s none (cond t behind (n && closed)) ≡ true → (not s && cond t behind' (n && open')) ≡ true
    pick true t n none behind closed behind' open' z f g h = absurd (both_ways none z h)
    pick false true n none behind closed behind' open' z f g h = f h
    pick false false true none behind closed behind' open' z f g h = g h
    pick false false false none behind closed behind' open' z f g h = h

    pick-open : (s t n behind open' behind' more : Bool) → (behind ≡ true → behind' ≡ true) → (open' ≡ true → more ≡ true) → (not s && cond t behind (n && open')) ≡ true → (not s && cond t behind' (n && more)) ≡ true
    pick-open true t n behind open' behind' more f g h = h
    pick-open false true n behind open' behind' more f g h = f h
    pick-open false false true behind open' behind' more f g h = g h
    pick-open false false false behind open' behind' more f g h = h

    lone-unclosed : is_unclosed quote (b ∷ []) ≡ true
    lone-unclosed =
        let other = nondigit-is_no b quote names_b sane in
        let plain = nondigit-is_no b 92 names_b refl in
        let same_line = nondigit-is_no b 10 names_b refl in
        and_from (not (b == quote)) (cond (b == 92) true (not (b == 10) && true)) (not_from_false (b == quote) other)
        (cond-false (b == 92) true (not (b == 10) && true) plain ∙ and_from (not (b == 10)) true (not_from_false (b == 10) same_line) refl)

    lone-behind : is_unclosed_behind quote (b ∷ []) ≡ true
    lone-behind = and_from (not (b == 10)) true (not_from_false (b == 10) (nondigit-is_no b 10 names_b refl)) refl

    mutual
      closed-open : (xs : List ℕ) → is_closed quote (xs ++ c ∷ w) ≡ true → is_unclosed quote (xs ++ b ∷ []) ≡ true
      closed-open [] = λ h. lone-unclosed
      closed-open (x ∷ xs) = λ h.
          pick (x == quote) (x == 92) (not (x == 10)) (length (xs ++ c ∷ w) == 0) (is_closed_behind quote (xs ++ c ∷ w)) (is_closed quote (xs ++ c ∷ w))
          (is_unclosed_behind quote (xs ++ b ∷ [])) (is_unclosed quote (xs ++ b ∷ [])) (not_empty xs) (behind-open xs) (closed-open xs) h

      behind-open : (xs : List ℕ) → is_closed_behind quote (xs ++ c ∷ w) ≡ true → is_unclosed_behind quote (xs ++ b ∷ []) ≡ true
      behind-open [] = λ h. lone-behind
      behind-open (x ∷ xs) = λ h.
          let parts = and_parts (not (x == 10)) (is_closed quote (xs ++ c ∷ w)) h in
          and_from (not (x == 10)) (is_unclosed quote (xs ++ b ∷ [])) parts.0 (closed-open xs parts.1)

    mutual
      unclosed-open : (xs : List ℕ) → is_unclosed quote (xs ++ c ∷ w) ≡ true → is_unclosed quote (xs ++ b ∷ []) ≡ true
      unclosed-open [] = λ h. lone-unclosed
      unclosed-open (x ∷ xs) = λ h.
          pick-open (x == quote) (x == 92) (not (x == 10)) (is_unclosed_behind quote (xs ++ c ∷ w)) (is_unclosed quote (xs ++ c ∷ w))
          (is_unclosed_behind quote (xs ++ b ∷ [])) (is_unclosed quote (xs ++ b ∷ [])) (unclosed-behind xs) (unclosed-open xs) h

      unclosed-behind : (xs : List ℕ) → is_unclosed_behind quote (xs ++ c ∷ w) ≡ true → is_unclosed_behind quote (xs ++ b ∷ []) ≡ true
      unclosed-behind [] = λ h. lone-behind
      unclosed-behind (x ∷ xs) = λ h.
          let parts = and_parts (not (x == 10)) (is_unclosed quote (xs ++ c ∷ w)) h in
          and_from (not (x == 10)) (is_unclosed quote (xs ++ b ∷ [])) parts.0 (unclosed-open xs parts.1)

  -- what begins with some bytes and goes on with a name is a piece only if the bytes with one byte of another name are
  module _ (first : ℕ) (xs : List ℕ) (none : IsNoPiece (first ∷ (xs ++ b ∷ []))) where
    abbrev whole : List ℕ
    whole = first ∷ (xs ++ c ∷ w)

    has-name : list_any is_nondigit whole ≡ true
    has-name = or_right (is_nondigit first) (list_any is_nondigit (xs ++ c ∷ w)) (has-append xs c w names_c)

    no_line_comment : (ys : List ℕ) → is_line_comment (first ∷ (ys ++ c ∷ w)) ≡ true → is_line_comment (first ∷ (ys ++ b ∷ [])) ≡ true
    no_line_comment [] h =
        let starts = (and_parts ((47 == first) && ((47 == c) && true)) _ h).0 in
        absurd (both_ways (47 == c) (nondigit-is_not c 47 names_c refl) (and_parts (47 == c) true (and_parts (47 == first) _ starts).1).0)
    no_line_comment (y ∷ ys) h =
        let parts = and_parts ((47 == first) && ((47 == y) && true)) (list_all (λ x. not (x == 10)) (first ∷ y ∷ (ys ++ c ∷ w))) h in
        and_from ((47 == first) && ((47 == y) && true)) (list_all (λ x. not (x == 10)) (first ∷ y ∷ (ys ++ b ∷ []))) parts.0
        (all-word (λ x. not (x == 10)) (first ∷ y ∷ ys) (not_from_false (b == 10) (nondigit-is_no b 10 names_b refl)) parts.1)

    no_block_comment : (ys : List ℕ) → is_block_comment (first ∷ (ys ++ c ∷ w)) ≡ true → is_open_comment (first ∷ (ys ++ b ∷ [])) ≡ true
    no_block_comment [] h =
        let starts = (and_parts ((47 == first) && ((42 == c) && true)) _ h).0 in
        absurd (both_ways (42 == c) (nondigit-is_not c 42 names_c refl) (and_parts (42 == c) true (and_parts (47 == first) _ starts).1).0)
    no_block_comment (y ∷ ys) h =
        let parts = and_parts ((47 == first) && ((42 == y) && true)) (ends_first (ys ++ c ∷ w)) h in
        and_from ((47 == first) && ((42 == y) && true)) (not (has_end (ys ++ b ∷ []))) parts.0 (not_from_false (has_end (ys ++ b ∷ [])) (ends-open ys parts.1))

    no_open_comment : (ys : List ℕ) → is_open_comment (first ∷ (ys ++ c ∷ w)) ≡ true → is_open_comment (first ∷ (ys ++ b ∷ [])) ≡ true
    no_open_comment [] h =
        let starts = (and_parts ((47 == first) && ((42 == c) && true)) _ h).0 in
        absurd (both_ways (42 == c) (nondigit-is_not c 42 names_c refl) (and_parts (42 == c) true (and_parts (47 == first) _ starts).1).0)
    no_open_comment (y ∷ ys) h =
        let parts = and_parts ((47 == first) && ((42 == y) && true)) (not (has_end (ys ++ c ∷ w))) h in
        and_from ((47 == first) && ((42 == y) && true)) (not (has_end (ys ++ b ∷ []))) parts.0 (not_from_false (has_end (ys ++ b ∷ [])) (open-open ys (not-true (has_end (ys ++ c ∷ w)) parts.1)))

    no_identifier : is_identifier whole ≡ true → is_identifier (first ∷ (xs ++ b ∷ [])) ≡ true
    no_identifier h =
        let parts = and_parts (is_nondigit first) (list_all is_word_byte (xs ++ c ∷ w)) h in
        and_from (is_nondigit first) (list_all is_word_byte (xs ++ b ∷ [])) parts.0 (all-word is_word_byte xs (nondigit-is_word b names_b) parts.1)

    no_number : is_number whole ≡ true → is_number (first ∷ (xs ++ b ∷ [])) ≡ true
    no_number h =
        ⊎_elim (λ e. or_left (begin_with_digit (first ∷ (xs ++ b ∷ []))) _ (digits-on (first ∷ xs) e))
        (λ e. let parts = and_parts (first == 46) (begin_with_digit (xs ++ c ∷ w)) e in or_right (begin_with_digit (first ∷ (xs ++ b ∷ []))) _ (and_from (first == 46) (begin_with_digit (xs ++ b ∷ [])) parts.0 (digits-on xs parts.1)))
        (or_cases (begin_with_digit whole) ((first == 46) && begin_with_digit (xs ++ c ∷ w)) h)

    no_quoted : (quote : ℕ) → is_nondigit quote ≡ false → is_quoted quote whole ≡ true → is_open_quoted quote (first ∷ (xs ++ b ∷ [])) ≡ true
    no_quoted quote sane h =
        let parts = and_parts (first == quote) (is_closed quote (xs ++ c ∷ w)) h in
        and_from (first == quote) (is_unclosed quote (xs ++ b ∷ [])) parts.0 (closed-open quote sane xs parts.1)

    no_open_quoted : (quote : ℕ) → is_nondigit quote ≡ false → is_open_quoted quote whole ≡ true → is_open_quoted quote (first ∷ (xs ++ b ∷ [])) ≡ true
    no_open_quoted quote sane h =
        let parts = and_parts (first == quote) (is_unclosed quote (xs ++ c ∷ w)) h in
        and_from (first == quote) (is_unclosed quote (xs ++ b ∷ [])) parts.0 (unclosed-open quote sane xs parts.1)

    behind-some : IsNoPiece whole
    behind-some = record {
      newline = (or_parts (is_newline whole) false (none-among whole ((10 ∷ []) ∷ []) has-name refl)).0;
      blank = none-among whole ((32 ∷ []) ∷ (9 ∷ []) ∷ (11 ∷ []) ∷ (12 ∷ []) ∷ (13 ∷ []) ∷ []) has-name refl;
      line_comment = false_from_ne_true (is_line_comment whole) (λ e. both_ways _ none.line_comment (no_line_comment xs e));
      block_comment = false_from_ne_true (is_block_comment whole) (λ e. both_ways _ none.open_comment (no_block_comment xs e));
      identifier = false_from_ne_true (is_identifier whole) (λ e. both_ways _ none.identifier (no_identifier e));
      number = false_from_ne_true (is_number whole) (λ e. both_ways _ none.number (no_number e));
      character = false_from_ne_true (is_quoted 39 whole) (λ e. both_ways _ none.open_character (no_quoted 39 refl e));
      text = false_from_ne_true (is_quoted 34 whole) (λ e. both_ways _ none.open_text (no_quoted 34 refl e));
      punctuator = none-among whole punctuators has-name refl;
      open_comment = false_from_ne_true (is_open_comment whole) (λ e. both_ways _ none.open_comment (no_open_comment xs e));
      open_character = false_from_ne_true (is_open_quoted 39 whole) (λ e. both_ways _ none.open_character (no_open_quoted 39 refl e));
      open_text = false_from_ne_true (is_open_quoted 34 whole) (λ e. both_ways _ none.open_text (no_open_quoted 34 refl e));
      one = not_one xs;
    }

pub name-behind : (b c first : ℕ) (xs w : List ℕ) → is_nondigit b ≡ true → is_nondigit c ≡ true → piece_of (first ∷ (xs ++ b ∷ [])) ≡ None → piece_of (first ∷ (xs ++ c ∷ w)) ≡ None
name-behind b c first xs w names_b names_c h =
    no_piece-none (first ∷ (xs ++ c ∷ w)) (behind-some b c names_b names_c w first xs (no_piece (first ∷ (xs ++ b ∷ [])) h))

-- ---- names

-- what begins with a byte of a name is nothing but a name
module _ (first : ℕ) (xs : List ℕ) (names : is_nondigit first ≡ true) where
  begins-name : list_any is_nondigit (first ∷ xs) ≡ true
  begins-name = or_left (is_nondigit first) (list_any is_nondigit xs) names

  no_slash : (second : ℕ) (ys : List ℕ) → starts_with nat_eq (first ∷ ys) (47 ∷ second ∷ []) ≡ false
  no_slash second [] = and_left (47 == first) false (nondigit-is_not first 47 names refl)
  no_slash second (y ∷ ys) = and_left (47 == first) _ (nondigit-is_not first 47 names refl)

  pub name-hash : bytes_eq (first ∷ xs) (codes "#") ≡ false
  name-hash = (or_parts (bytes_eq (first ∷ xs) (codes "#")) false (none-among (first ∷ xs) ((35 ∷ []) ∷ []) begins-name refl)).0

  pub name-newline : is_newline (first ∷ xs) ≡ false
  name-newline = (or_parts (is_newline (first ∷ xs)) false (none-among (first ∷ xs) ((10 ∷ []) ∷ []) begins-name refl)).0

  pub name-white : (is_blank (first ∷ xs) || is_line_comment (first ∷ xs) || is_block_comment (first ∷ xs)) ≡ false
  name-white =
      or_from (is_blank (first ∷ xs) || is_line_comment (first ∷ xs)) (is_block_comment (first ∷ xs))
      (or_from (is_blank (first ∷ xs)) (is_line_comment (first ∷ xs)) (none-among (first ∷ xs) ((32 ∷ []) ∷ (9 ∷ []) ∷ (11 ∷ []) ∷ (12 ∷ []) ∷ (13 ∷ []) ∷ []) begins-name refl) (and_left _ _ (no_slash 47 xs)))
      (and_left _ _ (no_slash 42 xs))

  not-name : is_identifier (first ∷ xs) ≡ false → (length (first ∷ xs) == 1) ≡ false → IsNoPiece (first ∷ xs)
  not-name none several =
      let white = or_parts (is_blank (first ∷ xs) || is_line_comment (first ∷ xs)) (is_block_comment (first ∷ xs)) name-white in
      let comments = or_parts (is_blank (first ∷ xs)) (is_line_comment (first ∷ xs)) white.0 in
      record {
        newline = name-newline;
        blank = comments.0;
        line_comment = comments.1;
        block_comment = white.1;
        identifier = none;
        number = or_from (begin_with_digit (first ∷ xs)) _ (and_left (is_digit first) _ (nondigit-no_digit first names)) (and_left (first == 46) _ (nondigit-is_no first 46 names refl));
        character = and_left (first == 39) _ (nondigit-is_no first 39 names refl);
        text = and_left (first == 34) _ (nondigit-is_no first 34 names refl);
        punctuator = none-among (first ∷ xs) punctuators begins-name refl;
        open_comment = and_left _ _ (no_slash 42 xs);
        open_character = and_left (first == 39) _ (nondigit-is_no first 39 names refl);
        open_text = and_left (first == 34) _ (nondigit-is_no first 34 names refl);
        one = several;
      }

-- a name ends where no byte of a word follows
pub name-ends : (first : ℕ) (xs : List ℕ) (next : ℕ) (w : List ℕ) → is_nondigit first ≡ true → is_word_byte next ≡ false → piece_of (first ∷ (xs ++ next ∷ w)) ≡ None
name-ends first xs next w names other =
    let whole = xs ++ next ∷ w in
    let size = length-append xs (next ∷ w) in
    let no_words = list_all-append is_word_byte xs (next ∷ w) ∙ and_right (list_all is_word_byte xs) (is_word_byte next && list_all is_word_byte w) (and_left (is_word_byte next) (list_all is_word_byte w) other) in
    no_piece-none (first ∷ whole) (not-name first whole names (and_right (is_nondigit first) (list_all is_word_byte whole) no_words) (ne_eqb (suc (length whole)) 1 (λ e. absurd (omega (arith, e, size)))))

pub name-piece : (w : List ℕ) → is_identifier w ≡ true → is_keyword w ≡ false → piece_of w ≡ Some (token Name)
name-piece [] h none = absurd (false≢true h)
name-piece (first ∷ xs) h none =
    let names = (and_parts (is_nondigit first) (list_all is_word_byte xs) h).0 in
    let w = first ∷ xs in
    cond-false (is_newline w) _ _ (name-newline first xs names)
    ∙ cond-false (is_blank w || is_line_comment w || is_block_comment w) (Some space) (words w) (name-white first xs names)
    ∙ cond-true (is_identifier w) _ (constants w) h ∙ ap (λ t. Some (token (cond t Keyword Name))) none

-- what is read as a name is one
skip : (test : Bool) (kind : PieceKind) (others : Option PieceKind) → cond test (Some kind) others ≡ Some (token Name) → (kind ≡ token Name → ⊥) → others ≡ Some (token Name)
skip true kind others h other = absurd (other (same_Some kind (token Name) h))
skip false kind others h other = h

bad-other : (test : Bool) (kind : TokenKind) → (token kind ≡ token Name → ⊥) → token (bad_unless test kind) ≡ token Name → ⊥
bad-other true kind other h = other h
bad-other false kind other h = cc

number-other : token Number ≡ token Name → ⊥
number-other h = cc

character-other : token Character ≡ token Name → ⊥
character-other h = cc

text-other : token Text ≡ token Name → ⊥
text-other h = cc

no_quoted-name : (w : List ℕ) → quoted w ≡ Some (token Name) → ⊥
no_quoted-name w h =
    let last = skip (is_open_quoted 39 w || is_open_quoted 34 w) (token (Bad OpenQuote)) (cond (length w == 1) (Some (token (Bad BadByte))) None) h (λ e. cc) in
    none-some (token Name) (skip (length w == 1) (token (Bad BadByte)) None last (λ e. cc))

no_sign-name : (w : List ℕ) → signs w ≡ Some (token Name) → ⊥
no_sign-name w h =
    let opened = skip (is_punctuator w) (token Punctuator) (cond (is_open_comment w) (Some (token (Bad OpenComment))) (quoted w)) h (λ e. cc) in
    no_quoted-name w (skip (is_open_comment w) (token (Bad OpenComment)) (quoted w) opened (λ e. cc))

no_constant-name : (w : List ℕ) → constants w ≡ Some (token Name) → ⊥
no_constant-name w h =
    let characters = skip (is_number w) (token (bad_unless (is_integer w) Number)) (cond (is_quoted 39 w) (Some (token (bad_unless (is_character w) Character))) (cond (is_quoted 34 w) (Some (token (bad_unless (is_text w) Text))) (signs w))) h (bad-other (is_integer w) Number number-other) in
    let texts = skip (is_quoted 39 w) (token (bad_unless (is_character w) Character)) (cond (is_quoted 34 w) (Some (token (bad_unless (is_text w) Text))) (signs w)) characters (bad-other (is_character w) Character character-other) in
    no_sign-name w (skip (is_quoted 34 w) (token (bad_unless (is_text w) Text)) (signs w) texts (bad-other (is_text w) Text text-other))

pub name-identifier : (w : List ℕ) → piece_of w ≡ Some (token Name) → is_identifier w ≡ true
name-identifier w h =
    let white = skip (is_newline w) line_end (cond (is_blank w || is_line_comment w || is_block_comment w) (Some space) (words w)) h (λ e. cc) in
    let named = skip (is_blank w || is_line_comment w || is_block_comment w) space (words w) white (λ e. cc) in
    ⊎_elim (λ e. e) (λ e. absurd (no_constant-name w (sym (cond-false (is_identifier w) (Some (token (cond (is_keyword w) Keyword Name))) (constants w) e) ∙ named)))
    (cases_Bool (is_identifier w))
