-- Words as pieces: what C tests of a text that begins with a letter, a digit or `_`.
use Rattle.std.proofs.Common.{◌≡◌, ℕ, suc, ◌+◌, ◌==◌, Bool, true, false, not, ◌&&◌, ◌||◌, List, [], ◌∷◌, ◌++◌, length, refl, ◌∙◌, sym, ap, cond, ⊎_elim, Some, None, arith, length-append}
use Rattle.std.specs.List.{list_any, list_all}
use Rattle.std.specs.Str.{bytes_eq}
use Rattle.std.proofs.lemmas.Bool.{both_ways, ne_eqb, and_from, and_left, and_right, and_parts, not-true, or_from, or_left, or_cases, cond-false, false_from_ne_true}
use Rattle.c_names.specs.Names.{is_digit, is_nondigit, is_word_byte, is_identifier, is_keyword}
use Rattle.c_text.specs.declared.token.TokenKind.{TokenKind}
use Rattle.c_text.specs.declared.token.TokenKind.TheVariants.{Name, Keyword, Number}
use Rattle.c_text.specs.Constants.{continue_number, begin_with_digit, is_number, is_integer}
use Rattle.c_text.specs.Pieces.{token, bad_unless, punctuators, piece_of}
use Rattle.quick_form.specs.Words as quick
use Rattle.quick_form.specs.Words.{begins_in_word}
use Rattle.quick_form.proofs.LexingPieces.{IsWord}
use Rattle.quick_lines.proofs.Marks.{lone, not_lone}
use Rattle.quick_lines.proofs.Numbers.{digit_is_no_letter, digits_of_number, number_is_no_name, digits_continue, digits_end, number_is_integer}

module _ (c : ℕ) (word : is_word_byte c ≡ true) where
  other_byte : (d : ℕ) → is_word_byte d ≡ false → (c == d) ≡ false
  other_byte d h = ne_eqb c d (λ e. both_ways (is_word_byte d) h (ap is_word_byte (sym e) ∙ word))

  pub byte_other : (d : ℕ) → is_word_byte d ≡ false → (d == c) ≡ false
  byte_other d h = ne_eqb d c (λ e. both_ways (is_word_byte d) h (ap is_word_byte e ∙ word))

  pub other_text : (cs text : List ℕ) → begins_in_word text ≡ false → bytes_eq (c ∷ cs) text ≡ false
  other_text cs [] h = refl
  other_text cs (d ∷ ds) h = and_left (c == d) (bytes_eq cs ds) (other_byte d h)

  none_of : (cs : List ℕ) (texts : List (List ℕ)) → list_all (λ t. not (begins_in_word t)) texts ≡ true → list_any (bytes_eq (c ∷ cs)) texts ≡ false
  none_of cs [] h = refl
  none_of cs (text ∷ texts) h =
      let parts = and_parts (not (begins_in_word text)) (list_all (λ t. not (begins_in_word t)) texts) h in
      or_from (bytes_eq (c ∷ cs) text) (list_any (bytes_eq (c ∷ cs)) texts)
      (other_text cs text (not-true (begins_in_word text) parts.0)) (none_of cs texts parts.1)

  -- Only names and numbers begin so.
  word_is : (cs : List ℕ) → piece_of (c ∷ cs) ≡ cond (is_identifier (c ∷ cs)) (Some (token (cond (is_keyword (c ∷ cs)) Keyword Name)))
      (cond (is_number (c ∷ cs)) (Some (token (bad_unless (is_integer (c ∷ cs)) Number))) (lone (suc (length cs))))
  word_is cs =
      let blanks = none_of cs ((32 ∷ []) ∷ (9 ∷ []) ∷ (11 ∷ []) ∷ (12 ∷ []) ∷ (13 ∷ []) ∷ []) refl in
      rw (other_byte 10 refl, blanks, byte_other 47 refl, other_byte 39 refl, other_byte 34 refl, none_of cs punctuators refl) refl

-- ---- the words of the quick form

-- a name or a number of the quick form
abbrev pub is_fine : List ℕ → Bool
is_fine w = is_identifier w || quick.is_number w

abbrev pub word_kind : List ℕ → TokenKind
word_kind w = cond (is_identifier w) (cond (is_keyword w) Keyword Name) Number

-- The word is a piece, and no longer one begins with it where no byte of a word and no point follows.
pub record IsWordPiece (w : List ℕ) : Type 0 where
  pub is_piece : piece_of w ≡ Some (token (word_kind w))
  pub longest : (b : ℕ) (more : List ℕ) → is_word_byte b ≡ false → (b == 46) ≡ false → piece_of (w ++ b ∷ more) ≡ None

word_stops : (w : List ℕ) (b : ℕ) (more : List ℕ) → is_word_byte b ≡ false → list_all is_word_byte (w ++ b ∷ more) ≡ false
word_stops [] b more h = and_left (is_word_byte b) (list_all is_word_byte more) h
word_stops (c ∷ w) b more h = and_right (is_word_byte c) (list_all is_word_byte (w ++ b ∷ more)) (word_stops w b more h)

module _ (c : ℕ) (cs : List ℕ) (word : is_word_byte c ≡ true) where
  -- behind a letter no number goes on, and behind digits none with another byte
  abbrev NumberStops : Type 0
  NumberStops = (b : ℕ) (more : List ℕ) → is_word_byte b ≡ false → (b == 46) ≡ false → (is_digit c && continue_number c (cs ++ b ∷ more)) ≡ false

  longer : NumberStops → (b : ℕ) (more : List ℕ) → is_word_byte b ≡ false → (b == 46) ≡ false → piece_of (c ∷ cs ++ b ∷ more) ≡ None
  longer stops b more other point =
      let rest = cs ++ b ∷ more in
      let no_name = and_right (is_nondigit c) (list_all is_word_byte rest) (word_stops cs b more other) in
      let no_point = and_left (c == 46) (begin_with_digit rest) (other_byte c word 46 refl) in
      let no_number = or_from (is_digit c && continue_number c rest) (c == 46 && begin_with_digit rest) (stops b more other point) no_point in
      let size : length rest ≡ suc (length cs + length more) = length-append cs (b ∷ more) ∙ omega arith in
      word_is c word rest ∙ cond-false (is_identifier (c ∷ rest)) _ _ no_name ∙ cond-false (is_number (c ∷ rest)) _ _ no_number
      ∙ ap (λ n. lone (suc n)) size ∙ not_lone (length cs + length more)

  name_is : is_identifier (c ∷ cs) ≡ true → IsWordPiece (c ∷ cs)
  name_is h =
      let letter = (and_parts (is_nondigit c) (list_all is_word_byte cs) h).0 in
      let no_digit = false_from_ne_true (is_digit c) (λ d. both_ways (is_nondigit c) (digit_is_no_letter c d) letter) in
      record {
        is_piece = word_is c word cs ∙ rw h refl;
        longest = longer (λ b more other point. and_left (is_digit c) (continue_number c (cs ++ b ∷ more)) no_digit);
      }

  number_is : quick.is_number (c ∷ cs) ≡ true → IsWordPiece (c ∷ cs)
  number_is h =
      let digits = and_parts (is_digit c) (list_all is_digit cs) (digits_of_number (c ∷ cs) h) in
      let begins = and_from (is_digit c) (continue_number c cs) digits.0 (digits_continue c cs digits.1) in
      let is_one = or_left (begin_with_digit (c ∷ cs)) (c == 46 && begin_with_digit cs) begins in
      record {
        is_piece = word_is c word cs ∙ rw (number_is_no_name (c ∷ cs) h, is_one, number_is_integer (c ∷ cs) h) refl;
        longest = longer (λ b more other point.
            and_right (is_digit c) (continue_number c (cs ++ b ∷ more)) (digits_end c cs b more digits.0 digits.1 other point));
      }

pub word_alone : (w : List ℕ) → IsWord w → is_fine w ≡ true → IsWordPiece w
word_alone [] word fine = absurd word
word_alone (c ∷ cs) word fine =
    ⊎_elim (name_is c cs word.0) (number_is c cs word.0) (or_cases (is_identifier (c ∷ cs)) (quick.is_number (c ∷ cs)) fine)
