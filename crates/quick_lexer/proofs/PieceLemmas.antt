-- The first piece of a line.
use Rattle.std.proofs.Common.{◌≡◌, ℕ, suc, ◌+◌, ◌<◌, ◌==◌, Bool, true, false, not, cond, List, [], ◌∷◌, ◌++◌, length, get_or, take, drop, refl, sym, ap, ◌∙◌, subst, ⊎_elim, arith}
use Rattle.std.specs.List.{prefix_len, filter, flat_map, list_all}
use Rattle.std.proofs.lemmas.Bool.{cond-true, cond-false, and_from, both_ways, eqb-true, or_cases, not_from_true, not_from_false}
use Rattle.quick_form.specs.Words.{is_word_byte, begins_in_word, is_blank}
use Rattle.quick_form.specs.Symbols.{Symbol, Mark, Piece, Word, Other, piece_bytes, with_letter, pieces_of, piece_symbols, is_blank_piece, solid_pieces}
use Rattle.quick_lexer.specs.Lines.{begins_with_blank, IsPiece, BeginsWith}

-- how many letters, digits and `_` the bytes begin with
abbrev run : List ℕ → ℕ
run = prefix_len is_word_byte

-- what a line with a letter before it begins with
abbrev LetterBefore : ℕ → List ℕ → ℕ → Type 0
LetterBefore b bs n = with_letter b (pieces_of bs) ≡ Word (b ∷ take n bs) ∷ pieces_of (drop n bs)

letter_before-cons : (b c : ℕ) (cs : List ℕ) (t : Bool) → is_word_byte c ≡ t → LetterBefore c cs (run cs) → LetterBefore b (c ∷ cs) (cond t (1 + run cs) 0)
letter_before-cons b c cs true e h =
    let one : suc (run cs) ≡ 1 + run cs = omega arith in
    let pieces = cond-true (is_word_byte c) (with_letter c (pieces_of cs)) (Other c ∷ pieces_of cs) e ∙ h in
    let Is : ℕ → Type 0 = λ n. LetterBefore b (c ∷ cs) n in
    subst Is one (ap (with_letter b) pieces)
letter_before-cons b c cs false e h =
    let pieces = cond-false (is_word_byte c) (with_letter c (pieces_of cs)) (Other c ∷ pieces_of cs) e in
    ap (with_letter b) pieces ∙ ap (λ ps. Word (b ∷ []) ∷ ps) (sym pieces)

letter_before : (b : ℕ) (bs : List ℕ) → LetterBefore b bs (run bs)
letter_before b [] = refl
letter_before b (c ∷ cs) = letter_before-cons b c cs (is_word_byte c) refl (letter_before c cs)

-- a line that begins with a letter, digit or `_` begins with the longest run of these
pub pieces_of-run : (line : List ℕ) (n : ℕ) → 0 < length line → is_word_byte (get_or line 0 0) ≡ true → n ≡ prefix_len is_word_byte line → pieces_of line ≡ Word (take n line) ∷ pieces_of (drop n line)
pieces_of-run [] n some e is = absurd (omega arith)
pieces_of-run (b ∷ bs) n some e is =
    let one : suc (run bs) ≡ n = let c = cond-true (is_word_byte b) (1 + run bs) 0 e in omega arith in
    let Is : ℕ → Type 0 = λ m. pieces_of (b ∷ bs) ≡ Word (take m (b ∷ bs)) ∷ pieces_of (drop m (b ∷ bs)) in
    subst Is one
    (cond-true (is_word_byte b) (with_letter b (pieces_of bs)) (Other b ∷ pieces_of bs) e ∙ letter_before b bs)

-- Blanks and tabs at the front change no solid piece.
pub blank_is_no_letter : (b : ℕ) → is_blank b ≡ true → is_word_byte b ≡ false
blank_is_no_letter b h =
    ⊎_elim (λ e. ap is_word_byte (eqb-true b 32 e)) (λ e. ap is_word_byte (eqb-true b 9 e)) (or_cases (b == 32) (b == 9) h)

pub solid_pieces-blank : (b : ℕ) (bs : List ℕ) → is_blank b ≡ true → solid_pieces (b ∷ bs) ≡ solid_pieces bs
solid_pieces-blank b bs h =
    ap (filter (λ p. not (is_blank_piece p)))
    (cond-false (is_word_byte b) (with_letter b (pieces_of bs)) (Other b ∷ pieces_of bs) (blank_is_no_letter b h))
    ∙ cond-false (not (is_blank b)) (Other b ∷ solid_pieces bs) (solid_pieces bs) (not_from_true (is_blank b) h)

solid_pieces-drop_as : (b : ℕ) (bs : List ℕ) (t : Bool) → is_blank b ≡ t → solid_pieces (drop (prefix_len is_blank bs) bs) ≡ solid_pieces bs → solid_pieces (drop (cond t (1 + prefix_len is_blank bs) 0) (b ∷ bs)) ≡ solid_pieces (b ∷ bs)
solid_pieces-drop_as b bs true e h =
    let one : suc (prefix_len is_blank bs) ≡ 1 + prefix_len is_blank bs = omega arith in
    let Is : ℕ → Type 0 = λ n. solid_pieces (drop n (b ∷ bs)) ≡ solid_pieces (b ∷ bs) in
    subst Is one (h ∙ sym (solid_pieces-blank b bs e))
solid_pieces-drop_as b bs false e h = refl

pub solid_pieces-drop : (line : List ℕ) → solid_pieces (drop (prefix_len is_blank line) line) ≡ solid_pieces line
solid_pieces-drop [] = refl
solid_pieces-drop (b ∷ bs) = solid_pieces-drop_as b bs (is_blank b) refl (solid_pieces-drop bs)

begins_with_blank-drop_as : (b : ℕ) (bs : List ℕ) (t : Bool) → is_blank b ≡ t → begins_with_blank (drop (prefix_len is_blank bs) bs) ≡ false → begins_with_blank (drop (cond t (1 + prefix_len is_blank bs) 0) (b ∷ bs)) ≡ false
begins_with_blank-drop_as b bs true e h =
    let one : suc (prefix_len is_blank bs) ≡ 1 + prefix_len is_blank bs = omega arith in
    let Is : ℕ → Type 0 = λ n. begins_with_blank (drop n (b ∷ bs)) ≡ false in
    subst Is one h
begins_with_blank-drop_as b bs false e h = e

pub begins_with_blank-drop : (line : List ℕ) → begins_with_blank (drop (prefix_len is_blank line) line) ≡ false
begins_with_blank-drop [] = refl
begins_with_blank-drop (b ∷ bs) = begins_with_blank-drop_as b bs (is_blank b) refl (begins_with_blank-drop bs)

-- behind them the first piece is solid
pub is_blank_piece-first : (line rest : List ℕ) (p : Piece) → begins_with_blank line ≡ false → line ≡ piece_bytes p ++ rest → is_blank_piece p ≡ false
is_blank_piece-first line rest (Word w) h e = refl
is_blank_piece-first line rest (Other b) h e = sym (ap begins_with_blank e) ∙ h

pub solid_pieces-first : (line rest : List ℕ) (p : Piece) → is_blank_piece p ≡ false → pieces_of line ≡ p ∷ pieces_of rest → solid_pieces line ≡ p ∷ solid_pieces rest
solid_pieces-first line rest p h e =
    ap (filter (λ q. not (is_blank_piece q))) e
    ∙ cond-true (not (is_blank_piece p)) (p ∷ solid_pieces rest) (solid_pieces rest) (not_from_false (is_blank_piece p) h)

-- the tokens of a line are spelled by its solid pieces
flat_map-solid_as : (p : Piece) (ps : List Piece) (t : Bool) → is_blank_piece p ≡ t → flat_map piece_symbols (p ∷ ps) ≡ flat_map piece_symbols (cond (not t) (p ∷ ps) ps)
flat_map-solid_as (Word w) ps true e = absurd (both_ways false refl e)
flat_map-solid_as (Other b) ps true e = ap (λ ks. ks ++ flat_map piece_symbols ps) (cond-true (is_blank b) [] (Mark b ∷ []) e)
flat_map-solid_as p ps false e = refl

flat_map-solid : (ps : List Piece) → flat_map piece_symbols ps ≡ flat_map piece_symbols (filter (λ p. not (is_blank_piece p)) ps)
flat_map-solid [] = refl
flat_map-solid (p ∷ ps) =
    ap (λ ks. piece_symbols p ++ ks) (flat_map-solid ps)
    ∙ flat_map-solid_as p (filter (λ q. not (is_blank_piece q)) ps) (is_blank_piece p) refl

pub token_symbols-solid : (line : List ℕ) → flat_map piece_symbols (pieces_of line) ≡ flat_map piece_symbols (solid_pieces line)
token_symbols-solid line = flat_map-solid (pieces_of line)

pub token_symbols-none : (line : List ℕ) → solid_pieces line ≡ [] → flat_map piece_symbols (pieces_of line) ≡ []
token_symbols-none line e = token_symbols-solid line ∙ ap (flat_map piece_symbols) e

pub token_symbols-some : (line rest : List ℕ) (p : Piece) (s : Symbol) → solid_pieces line ≡ p ∷ solid_pieces rest → piece_symbols p ≡ s ∷ [] → flat_map piece_symbols (pieces_of line) ≡ s ∷ flat_map piece_symbols (pieces_of rest)
token_symbols-some line rest p s e one =
    token_symbols-solid line ∙ ap (flat_map piece_symbols) e
    ∙ ap (λ ks. ks ++ flat_map piece_symbols (solid_pieces rest)) one
    ∙ ap (λ ks. s ∷ ks) (sym (token_symbols-solid rest))

take-run_as : (p : ℕ → Bool) (b : ℕ) (bs : List ℕ) (t : Bool) → p b ≡ t → list_all p (take (prefix_len p bs) bs) ≡ true → list_all p (take (cond t (1 + prefix_len p bs) 0) (b ∷ bs)) ≡ true
take-run_as p b bs true e h =
    let one : suc (prefix_len p bs) ≡ 1 + prefix_len p bs = omega arith in
    let Is : ℕ → Type 0 = λ n. list_all p (take n (b ∷ bs)) ≡ true in
    subst Is one (and_from (p b) (list_all p (take (prefix_len p bs) bs)) e h)
take-run_as p b bs false e h = refl

take-run : (p : ℕ → Bool) (line : List ℕ) → list_all p (take (prefix_len p line) line) ≡ true
take-run p [] = refl
take-run p (b ∷ bs) = take-run_as p b bs (p b) refl (take-run p bs)

begins_in_word-drop_as : (b : ℕ) (bs : List ℕ) (t : Bool) → is_word_byte b ≡ t → begins_in_word (drop (run bs) bs) ≡ false → begins_in_word (drop (cond t (1 + run bs) 0) (b ∷ bs)) ≡ false
begins_in_word-drop_as b bs true e h =
    let one : suc (run bs) ≡ 1 + run bs = omega arith in
    let Is : ℕ → Type 0 = λ n. begins_in_word (drop n (b ∷ bs)) ≡ false in
    subst Is one h
begins_in_word-drop_as b bs false e h = e

begins_in_word-drop : (line : List ℕ) → begins_in_word (drop (run line) line) ≡ false
begins_in_word-drop [] = refl
begins_in_word-drop (b ∷ bs) = begins_in_word-drop_as b bs (is_word_byte b) refl (begins_in_word-drop bs)

-- the longest run of letters, digits and `_` is a whole word
pub IsPiece-run : (line : List ℕ) (n : ℕ) → 0 < length line → is_word_byte (get_or line 0 0) ≡ true → n ≡ prefix_len is_word_byte line → IsPiece (Word (take n line)) (drop n line)
IsPiece-run [] n some e is = absurd (omega arith)
IsPiece-run (b ∷ bs) n some e is =
    let one : suc (run bs) ≡ n = let c = cond-true (is_word_byte b) (1 + run bs) 0 e in omega arith in
    let Begins : ℕ → Type 0 = λ m. begins_in_word (take m (b ∷ bs)) ≡ true in
    let All_of : ℕ → Type 0 = λ m. list_all is_word_byte (take m (b ∷ bs)) ≡ true in
    let Ends : ℕ → Type 0 = λ m. begins_in_word (drop m (b ∷ bs)) ≡ false in
    (subst Begins one e, subst All_of (sym is) (take-run is_word_byte (b ∷ bs)), subst Ends (sym is) (begins_in_word-drop (b ∷ bs)))

-- a line begins with what it begins with behind its blanks and tabs
pub BeginsWith-blanks : (line visible rest : List ℕ) (p : Piece) → line ≡ take (prefix_len is_blank line) line ++ visible → visible ≡ piece_bytes p ++ rest → IsPiece p rest → BeginsWith line p rest
BeginsWith-blanks line visible rest p blanks first cut = record {
  blanks = take (prefix_len is_blank line) line;
  are_blank = take-run is_blank line;
  joined = blanks ∙ ap (λ bs. take (prefix_len is_blank line) line ++ bs) first;
  cut = cut;
}
