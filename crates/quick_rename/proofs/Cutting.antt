-- Lines cut behind a piece.
use Rattle.std.proofs.Common.{◌≡◌, ℕ, ◌+◌, not, true, false, List, [], ◌∷◌, ◌++◌, length, map, refl, sym, ◌∙◌, ap, append_assoc, arith}
use Rattle.std.specs.List.{filter, list_all}
use Rattle.std.proofs.lemmas.Bool.{both_ways, false_from_ne_true, and_parts, cond-true, cond-false, not_from_false}
use Rattle.quick_form.specs.Words.{is_word_byte, is_blank, begins_in_word}
use Rattle.quick_form.specs.Symbols.{Symbol, Piece, Word, Other, piece_bytes, with_letter, pieces_of, piece_symbols, is_blank_piece, solid_pieces}
use Rattle.quick_form.specs.Places.{placed_pieces}
use Rattle.quick_form.proofs.LexingPieces.{IsWord, pieces_of-word}
use Rattle.quick_form.proofs.CutLines.{no_word_first}
use Rattle.quick_lexer.proofs.PieceLemmas.{blank_is_no_letter, solid_pieces-blank}
use Rattle.quick_lexer.specs.Lines.{IsPiece}
use Rattle.quick_rename.specs.Cuts.{Cut}
use Rattle.quick_rename.specs.Visits.{placed}

pub is_word : (w : List ℕ) → begins_in_word w ≡ true → list_all is_word_byte w ≡ true → IsWord w
is_word [] e h = absurd (both_ways false refl e)
is_word (b ∷ w) e h = (e, (and_parts (is_word_byte b) (list_all is_word_byte w) h).1)

-- a piece with anything behind it that doesn't lengthen it
pub pieces_of-piece : (p : Piece) (rest : List ℕ) → IsPiece p rest → pieces_of (piece_bytes p ++ rest) ≡ p ∷ pieces_of rest
pieces_of-piece (Word w) rest h = pieces_of-word w rest (is_word w h.0 h.1) (no_word_first rest h.2)
pieces_of-piece (Other b) rest h = cond-false (is_word_byte b) (with_letter b (pieces_of rest)) (Other b ∷ pieces_of rest) h

filter_solid : (p : Piece) (ps : List Piece) → is_blank_piece p ≡ false → filter (λ q. not (is_blank_piece q)) (p ∷ ps) ≡ p ∷ filter (λ q. not (is_blank_piece q)) ps
filter_solid p ps e = cond-true (not (is_blank_piece p)) (p ∷ filter (λ q. not (is_blank_piece q)) ps) (filter (λ q. not (is_blank_piece q)) ps) (not_from_false (is_blank_piece p) e)

pub solid_pieces-piece : (p : Piece) (rest : List ℕ) → IsPiece p rest → is_blank_piece p ≡ false → solid_pieces (piece_bytes p ++ rest) ≡ p ∷ solid_pieces rest
solid_pieces-piece p rest h e = ap (filter (λ q. not (is_blank_piece q))) (pieces_of-piece p rest h) ∙ filter_solid p (pieces_of rest) e

pieces_of-blank : (b : ℕ) (bs : List ℕ) → is_blank b ≡ true → pieces_of (b ∷ bs) ≡ Other b ∷ pieces_of bs
pieces_of-blank b bs h = cond-false (is_word_byte b) (with_letter b (pieces_of bs)) (Other b ∷ pieces_of bs) (blank_is_no_letter b h)

-- blanks and tabs at the front change no solid piece
pub solid_pieces-blanks : (blanks rest : List ℕ) → list_all is_blank blanks ≡ true → solid_pieces (blanks ++ rest) ≡ solid_pieces rest
solid_pieces-blanks [] rest h = refl
solid_pieces-blanks (b ∷ bs) rest h =
    let p = and_parts (is_blank b) (list_all is_blank bs) h in
    solid_pieces-blank b (bs ++ rest) p.0 ∙ solid_pieces-blanks bs rest p.1

-- THE CUT

pub cut_start : (line : List ℕ) → Cut line line []
cut_start line = record { before = []; joined = refl; pieces = λ rest h. refl }

-- what begins with blanks and a piece begins so whatever follows
pub begins_same : (blanks : List ℕ) (p : Piece) (rest more : List ℕ) → IsPiece p rest → begins_in_word (blanks ++ (piece_bytes p ++ more)) ≡ begins_in_word (blanks ++ (piece_bytes p ++ rest))
begins_same [] (Word []) rest more h = absurd (both_ways false refl h.0)
begins_same [] (Word (b ∷ w)) rest more h = refl
begins_same [] (Other b) rest more h = refl
begins_same (b ∷ bs) p rest more h = refl

pub stays_piece : (p : Piece) (rest more : List ℕ) → IsPiece p rest → (begins_in_word more ≡ true → begins_in_word rest ≡ true) → IsPiece p more
stays_piece (Word w) rest more h f = (h.0, h.1, false_from_ne_true (begins_in_word more) (λ e. both_ways (begins_in_word rest) h.2 (f e)))
stays_piece (Other b) rest more h f = h

pub cut_more : (line text : List ℕ) (ps : List Piece) (blanks : List ℕ) (p : Piece) (rest : List ℕ) → Cut line text ps → list_all is_blank blanks ≡ true → text ≡ blanks ++ (piece_bytes p ++ rest) → IsPiece p rest → is_blank_piece p ≡ false → Cut line rest (ps ++ p ∷ [])
cut_more line text ps blanks p rest c h e piece solid = record {
  before = c.before ++ (blanks ++ piece_bytes p);
  joined =
      c.joined ∙ (ap (λ t. c.before ++ t) (e ∙ sym (append_assoc blanks (piece_bytes p) rest)) ∙ sym (append_assoc c.before (blanks ++ piece_bytes p) rest));
  pieces = λ more f.
      let whole = stays_piece p rest more piece f in
      let same : begins_in_word (blanks ++ (piece_bytes p ++ more)) ≡ begins_in_word text = begins_same blanks p rest more piece ∙ sym (ap begins_in_word e) in
      ap solid_pieces (append_assoc c.before (blanks ++ piece_bytes p) more ∙ ap (λ t. c.before ++ t) (append_assoc blanks (piece_bytes p) more))
      ∙ (c.pieces (blanks ++ (piece_bytes p ++ more)) (λ g. sym same ∙ g)
      ∙ (ap (λ qs. ps ++ qs) (solid_pieces-blanks blanks (piece_bytes p ++ more) h ∙ solid_pieces-piece p more whole solid)
      ∙ sym (append_assoc ps (p ∷ []) (solid_pieces more))));
}

-- THE PLACED SYMBOLS

placed_blanks : (i : ℕ) (blanks rest : List ℕ) → list_all is_blank blanks ≡ true → placed_pieces i (pieces_of (blanks ++ rest)) ≡ placed_pieces (i + length blanks) (pieces_of rest)
placed_blanks i [] rest h = ap (λ n. placed_pieces n (pieces_of rest)) (omega arith)
placed_blanks i (b ∷ bs) rest h =
    let p = and_parts (is_blank b) (list_all is_blank bs) h in
    let one : (i + 1) + length bs ≡ i + length (b ∷ bs) = omega arith in
    ap (placed_pieces i) (pieces_of-blank b (bs ++ rest) p.0)
    ∙ (ap (λ ks. map (λ k. placed k (i + length (b ∷ []))) ks ++ placed_pieces (i + length (b ∷ [])) (pieces_of (bs ++ rest))) (cond-true (is_blank b) [] _ p.0)
    ∙ (placed_blanks (i + 1) bs rest p.1 ∙ ap (λ n. placed_pieces n (pieces_of rest)) one))

pub placed_first : (i : ℕ) (blanks : List ℕ) (p : Piece) (rest : List ℕ) (k : Symbol) → list_all is_blank blanks ≡ true → IsPiece p rest → piece_symbols p ≡ k ∷ [] → placed_pieces i (pieces_of (blanks ++ (piece_bytes p ++ rest))) ≡ placed k ((i + length blanks) + length (piece_bytes p)) ∷ placed_pieces ((i + length blanks) + length (piece_bytes p)) (pieces_of rest)
placed_first i blanks p rest k h piece e =
    let j = i + length blanks in
    placed_blanks i blanks (piece_bytes p ++ rest) h
    ∙ (ap (placed_pieces j) (pieces_of-piece p rest piece)
    ∙ ap (λ ks. map (λ l. placed l (j + length (piece_bytes p))) ks ++ placed_pieces (j + length (piece_bytes p)) (pieces_of rest)) e)
