-- C cuts a line into the pieces of the quick form.
use Rattle.std.proofs.Common.{◌≡◌, ℕ, suc, ◌<◌, ◌==◌, true, false, not, ◌&&◌, List, [], ◌∷◌, ◌++◌, codes, length, refl, sym, ap, subst, ◌∙◌, Some, None, arith, append-nil}
use Rattle.std.specs.List.{join_with_byte}
use Rattle.std.proofs.lemmas.Bool.{both_ways, and_parts, and_right, not-true, false_from_ne_true, cond_both}
use Rattle.std.proofs.lemmas.List.{length-map, map-append}
use Rattle.c_names.specs.Names.{is_word_byte}
use Rattle.c_text.specs.Constants.{is_one_of}
use Rattle.c_text.specs.Splices.{bytes_of}
use Rattle.c_text.specs.Pieces.{PieceKind, token, line_end, piece_of}
use Rattle.c_text.specs.Lines as lines
use Rattle.c_text.specs.Lines.{IsLongest, AreItsPieces}
use Rattle.quick_form.specs.Symbols.{Piece, Word, Other, piece_bytes, with_letter, pieces_of}
use Rattle.quick_form.proofs.LexingPieces.{NoWordFirst, ArePieces, ArePieces-pieces_of}
use Rattle.quick_lines.proofs.Marks.{marks, may_begin, makes_longer, mark_kind, StandsAlone, of_all, mark_alone, newline_alone}
use Rattle.quick_lines.proofs.WordPieces.{word_kind, IsWordPiece, word_alone}
use Rattle.quick_lines.proofs.Spacing.{MayStand, AreSpaced, AllSpaced, AreLines}
use Rattle.quick_lines.proofs.Splicing.{placed_at, behind, placed_bytes, placed_append}

-- ---- one piece

-- the bytes w are a piece, and no more bytes of `w ++ rest` are one
record IsCut (w rest : List ℕ) (kind : PieceKind) : Type 0 where
  is_piece : piece_of w ≡ Some kind
  longest : (b : ℕ) (more others : List ℕ) → rest ≡ b ∷ others → piece_of (w ++ b ∷ more) ≡ None

record IsLonger (w rest longer : List ℕ) : Type 0 where
  next : ℕ
  more : List ℕ
  others : List ℕ
  rest_is : rest ≡ next ∷ others
  longer_is : longer ≡ w ++ next ∷ more

longer_front : (w rest longer more : List ℕ) → w ++ rest ≡ longer ++ more → length w < length longer → IsLonger w rest longer
longer_front w rest [] more e l = absurd (omega (arith, l))
longer_front [] rest (b ∷ longer) more e l =
    record { next = b; more = longer; others = longer ++ more; rest_is = e; longer_is = refl }
longer_front (c ∷ w) rest (b ∷ longer) more e l =
    let first : c ≡ b = cc in
    let others : w ++ rest ≡ longer ++ more = cc in
    let h = longer_front w rest longer more others (omega (arith, l)) in
    record {
      next = h.next;
      more = h.more;
      others = h.others;
      rest_is = h.rest_is;
      longer_is = ap (λ d. d ∷ longer) (sym first) ∙ ap (λ x. c ∷ x) h.longer_is;
    }

abbrev pub piece_at : ℕ → List ℕ → PieceKind → lines.Piece
piece_at at w kind = record { bytes = placed_at at w; kind = kind }

cut_is_longest : (at : ℕ) (w rest : List ℕ) (kind : PieceKind) → IsCut w rest kind
    → IsLongest (placed_at at (w ++ rest)) (piece_at at w kind) (placed_at (behind at w) rest)
cut_is_longest at w rest kind cut = record {
  split = placed_append at w rest;
  is_piece = ap piece_of (placed_bytes at w) ∙ cut.is_piece;
  longest = λ longer more e l.
      let bytes : w ++ rest ≡ bytes_of longer ++ bytes_of more =
      sym (placed_bytes at (w ++ rest)) ∙ ap bytes_of e ∙ map-append (λ p. p.byte) longer more in
      let same = ap length (placed_bytes at w) in
      let size : length (placed_at at w) ≡ length (bytes_of (placed_at at w)) = sym (length-map (placed_at at w) (λ p. p.byte)) in
      let size' : length (bytes_of longer) ≡ length longer = length-map longer (λ p. p.byte) in
      let h = longer_front w rest (bytes_of longer) (bytes_of more) bytes (omega (arith, l, same, size, size')) in
      ap piece_of h.longer_is ∙ cut.longest h.next h.more h.others h.rest_is;
}

-- ---- what stands behind it

-- what holds of the first byte, if there is one
abbrev Begins : (ℕ → Type 0) → List ℕ → Type 0
Begins P [] = Unit {0}
Begins P (b ∷ bs) = P b

begins_all : (P : ℕ → Type 0) (bytes : List ℕ) → ((b : ℕ) → P b) → Begins P bytes
begins_all P [] h = tt
begins_all P (b ∷ bs) h = h b

-- a newline, or the end of the text
abbrev IsBreak : List ℕ → Type 0
IsBreak [] = Unit {0}
IsBreak (b ∷ bs) = b ≡ 10

at_break : (P : ℕ → Type 0) (rest : List ℕ) → IsBreak rest → P 10 → Begins P rest
at_break P [] h p = tt
at_break P (b ∷ rest) h p = subst P (sym h) p

-- the bytes of pieces, and then others
abbrev pub bytes_before : List Piece → List ℕ → List ℕ
bytes_before [] rest = rest
bytes_before (p ∷ ps) rest = piece_bytes p ++ bytes_before ps rest

abbrev EndsWord : ℕ → Type 0
EndsWord b = (is_word_byte b ≡ false) × ((b == 46) ≡ false)

abbrev EndsMark : ℕ → ℕ → Type 0
EndsMark b c = (may_begin b && makes_longer c) ≡ false

mark_ends_word : (b : ℕ) → is_one_of marks b ≡ true → EndsWord b
mark_ends_word b h =
    let parts = and_parts (not (is_word_byte b)) (not (b == 46)) (of_all (λ c. not (is_word_byte c) && not (c == 46)) marks b refl h) in
    (not-true (is_word_byte b) parts.0, not-true (b == 46) parts.1)

letter_ends_mark : (b c : ℕ) → is_word_byte c ≡ true → EndsMark b c
letter_ends_mark b c h =
    and_right (may_begin b) (makes_longer c) (false_from_ne_true (makes_longer c)
    (λ e. both_ways (is_word_byte c) (not-true (is_word_byte c) (of_all (λ d. not (is_word_byte d)) (codes "#+-=>") c refl e)) h))

behind_word : (ps : List Piece) (rest : List ℕ) → NoWordFirst ps → AreSpaced ps → IsBreak rest → Begins EndsWord (bytes_before ps rest)
behind_word [] rest h spaced stop = at_break EndsWord rest stop (refl, refl)
behind_word (Word w ∷ ps) rest h spaced stop = absurd h
behind_word (Other b ∷ ps) rest h spaced stop = mark_ends_word b spaced.0

behind_mark : (b : ℕ) (ps : List Piece) (rest : List ℕ) → ArePieces ps → MayStand b ps → IsBreak rest → Begins (EndsMark b) (bytes_before ps rest)
behind_mark b [] rest h may stop = at_break (EndsMark b) rest stop (and_right (may_begin b) false refl)
behind_mark b (Word [] ∷ ps) rest h may stop = absurd h.0
behind_mark b (Word (c ∷ w) ∷ ps) rest h may stop = letter_ends_mark b c h.0.0
behind_mark b (Other c ∷ ps) rest h may stop = may

-- ---- all pieces

word_cut : (w rest : List ℕ) → IsWordPiece w → Begins EndsWord rest → IsCut w rest (token (word_kind w))
word_cut w rest h begins = record {
  is_piece = h.is_piece;
  longest = λ b more others e. let ends = subst (Begins EndsWord) e begins in h.longest b more ends.0 ends.1;
}

mark_cut : (b : ℕ) (rest : List ℕ) (kind : PieceKind) → StandsAlone b kind → Begins (EndsMark b) rest → IsCut (b ∷ []) rest kind
mark_cut b rest kind h begins = record {
  is_piece = h.is_piece;
  longest = λ c more others e. h.longest c more (subst (Begins (EndsMark b)) e begins);
}

abbrev piece_kind : Piece → PieceKind
piece_kind (Word w) = token (word_kind w)
piece_kind (Other b) = mark_kind b

-- the pieces from an offset on, and then those from the offset behind them
abbrev pub placed_pieces : ℕ → List Piece → (ℕ → List lines.Piece) → List lines.Piece
placed_pieces at [] others = others at
placed_pieces at (p ∷ ps) others =
    piece_at at (piece_bytes p) (piece_kind p) ∷ placed_pieces (behind at (piece_bytes p)) ps others

cut_line : (at : ℕ) (ps : List Piece) (rest : List ℕ) (others : ℕ → List lines.Piece) → ArePieces ps → AreSpaced ps → IsBreak rest
    → ((at : ℕ) → AreItsPieces (placed_at at rest) (others at))
    → AreItsPieces (placed_at at (bytes_before ps rest)) (placed_pieces at ps others)
cut_line at [] rest others pieces spaced stop next = next at
cut_line at (Word w ∷ ps) rest others pieces spaced stop next =
    let bytes = bytes_before ps rest in
    let cut = word_cut w bytes (word_alone w pieces.0 spaced.0) (behind_word ps rest pieces.1 spaced.1 stop) in
    (placed_at (behind at w) bytes, cut_is_longest at w bytes _ cut, cut_line (behind at w) ps rest others pieces.2 spaced.1 stop next)
cut_line at (Other b ∷ ps) rest others pieces spaced stop next =
    let bytes = bytes_before ps rest in
    let cut = mark_cut b bytes (mark_kind b) (mark_alone b spaced.0) (behind_mark b ps rest pieces.2 spaced.1 stop) in
    (placed_at (suc at) bytes, cut_is_longest at (b ∷ []) bytes _ cut, cut_line (suc at) ps rest others pieces.2 spaced.2 stop next)

-- ---- the lines of a text

abbrev pub newline_at : ℕ → lines.Piece
newline_at at = piece_at at (10 ∷ []) line_end

abbrev pub text_pieces : ℕ → List (List ℕ) → List lines.Piece
text_pieces at [] = []
text_pieces at (l ∷ []) = placed_pieces at (pieces_of l) (λ end. [])
text_pieces at (l ∷ m ∷ ls) = placed_pieces at (pieces_of l) (λ end. newline_at end ∷ text_pieces (suc end) (m ∷ ls))

letter_before : (b : ℕ) (ps : List Piece) (rest : List ℕ) → bytes_before (with_letter b ps) rest ≡ b ∷ bytes_before ps rest
letter_before b [] rest = refl
letter_before b (Word w ∷ ps) rest = refl
letter_before b (Other c ∷ ps) rest = refl

pub bytes_are : (l rest : List ℕ) → bytes_before (pieces_of l) rest ≡ l ++ rest
bytes_are [] rest = refl
bytes_are (b ∷ bs) rest =
    cond_both (is_word_byte b) (with_letter b (pieces_of bs)) (Other b ∷ pieces_of bs) (λ ps. bytes_before ps rest ≡ b ∷ bs ++ rest)
    (λ _. letter_before b (pieces_of bs) rest ∙ ap (λ x. b ∷ x) (bytes_are bs rest)) (λ _. ap (λ x. b ∷ x) (bytes_are bs rest))

newline_cut : (rest : List ℕ) → IsCut (10 ∷ []) rest line_end
newline_cut rest = mark_cut 10 rest line_end newline_alone (begins_all (EndsMark 10) rest (λ b. refl))

pub cut_text : (at : ℕ) (ls : List (List ℕ)) → AreLines ls → AllSpaced ls → AreItsPieces (placed_at at (join_with_byte 10 ls)) (text_pieces at ls)
cut_text at [] lines spaced = refl
cut_text at (l ∷ []) lines spaced =
    subst (λ bytes. AreItsPieces (placed_at at bytes) (placed_pieces at (pieces_of l) (λ end. []))) (bytes_are l [] ∙ append-nil l)
    (cut_line at (pieces_of l) [] (λ end. []) (ArePieces-pieces_of l lines.0) spaced.0 tt (λ end. refl))
cut_text at (l ∷ m ∷ ls) lines spaced =
    let rest = join_with_byte 10 (m ∷ ls) in
    subst (λ bytes. AreItsPieces (placed_at at bytes) (text_pieces at (l ∷ m ∷ ls))) (bytes_are l (10 ∷ rest))
    (cut_line at (pieces_of l) (10 ∷ rest) (λ end. newline_at end ∷ text_pieces (suc end) (m ∷ ls)) (ArePieces-pieces_of l lines.0) spaced.0 refl
    (λ end. (placed_at (suc end) rest, cut_is_longest end (10 ∷ []) rest line_end (newline_cut rest), cut_text (suc end) (m ∷ ls) lines.1 spaced.1)))
