-- What a renamed line, and a renamed text, spells.
use Rattle.std.proofs.Common.{◌≡◌, ℕ, Bool, true, false, not, ◌==◌, cond, List, [], ◌∷◌, ◌++◌, codes, map, refl, sym, ap, ◌∙◌, subst}
use Rattle.std.specs.List.{flat_map, filter, onto_first, join_with_byte, AllByRecursion}
use Rattle.std.specs.Str.{bytes_eq}
use Rattle.std.proofs.lemmas.Bool.{cond-true, cond-false, cond_both}
use Rattle.std.proofs.lemmas.List.{map-append}
use Rattle.std.proofs.lemmas.List.Elements.{All-from_recursion}
use Rattle.std.proofs.lemmas.List.Splits.{slice_split_none, slice_split_at}
use Rattle.quick_form.specs.Words.{is_blank, is_name}
use Rattle.quick_form.specs.Symbols.{Symbol, Ifdef, Else, Endif, Malformed, Piece, Word, Other, pieces_of, piece_symbols, directive_symbol, is_blank_piece, solid_pieces, is_directive_line, after_first_piece, word_symbol, line_symbols, lines_of, symbols_of}
use Rattle.quick_form.specs.Renaming.{renamed_piece, renamed_line, renamed_bytes, renamed_symbol}
use Rattle.quick_form.proofs.LexingPieces.{IsOneLine, piece_with, ArePieces-pieces_of, pieces_of-bytes, ArePieces-renamed, bytes-renamed, IsOneLine-bytes}
use Rattle.quick_form.proofs.LexingWords.{IsWord-name, word_symbol-renamed}

-- a directive line stays
directive_symbol-kept : (old new : List ℕ) (ps : List Piece) → renamed_symbol old new (directive_symbol ps) ≡ directive_symbol ps
directive_symbol-kept old new [] = refl
directive_symbol-kept old new (Word d ∷ []) =
    let Stays : Symbol → Type 0 = λ s. renamed_symbol old new s ≡ s in
    cond_both (bytes_eq d (codes "else")) Else _ Stays (λ _. refl) (λ _.
    cond_both (bytes_eq d (codes "endif")) Endif Malformed Stays (λ _. refl) (λ _. refl))
directive_symbol-kept old new (Word d ∷ Word n ∷ []) =
    let Stays : Symbol → Type 0 = λ s. renamed_symbol old new s ≡ s in
    cond_both (bytes_eq d (codes "ifdef")) _ Malformed Stays (λ _.
    cond_both (is_name n) (Ifdef n) Malformed Stays (λ _. refl) (λ _. refl)) (λ _. refl)
directive_symbol-kept old new (Word d ∷ Word n ∷ p ∷ ps) = refl
directive_symbol-kept old new (Word d ∷ Other b ∷ ps) = refl
directive_symbol-kept old new (Other b ∷ ps) = refl

-- a line of tokens stays one
is_directive_line-other : (b : ℕ) (t : Bool) (ps qs : List Piece) → is_directive_line ps ≡ is_directive_line qs → is_directive_line (cond (not t) (Other b ∷ ps) ps) ≡ is_directive_line (cond (not t) (Other b ∷ qs) qs)
is_directive_line-other b true ps qs e = e
is_directive_line-other b false ps qs e = refl

is_directive_line-renamed : (old new : List ℕ) (ps : List Piece) → is_directive_line (filter (λ p. not (is_blank_piece p)) (map (piece_with old new) ps)) ≡ is_directive_line (filter (λ p. not (is_blank_piece p)) ps)
is_directive_line-renamed old new [] = refl
is_directive_line-renamed old new (Word w ∷ ps) = refl
is_directive_line-renamed old new (Other b ∷ ps) =
    is_directive_line-other b (is_blank b) _ _ (is_directive_line-renamed old new ps)

piece_symbols-other : (old new : List ℕ) (b : ℕ) → map (renamed_symbol old new) (piece_symbols (Other b)) ≡ piece_symbols (Other b)
piece_symbols-other old new b =
    let Stays : List Symbol → Type 0 = λ ks. map (renamed_symbol old new) ks ≡ ks in
    cond_both (is_blank b) [] _ Stays (λ _. refl) (λ _. refl)

pieces-renamed : (old new : List ℕ) (ps : List Piece) → is_name old ≡ true → is_name new ≡ true → flat_map piece_symbols (map (piece_with old new) ps) ≡ map (renamed_symbol old new) (flat_map piece_symbols ps)
pieces-renamed old new [] ho hn = refl
pieces-renamed old new (Word w ∷ ps) ho hn =
    ap (λ k. k ∷ flat_map piece_symbols (map (piece_with old new) ps)) (word_symbol-renamed old new w ho hn)
    ∙ ap (λ ks. renamed_symbol old new (word_symbol w) ∷ ks) (pieces-renamed old new ps ho hn)
pieces-renamed old new (Other b ∷ ps) ho hn =
    ap (λ ks. piece_symbols (Other b) ++ ks) (pieces-renamed old new ps ho hn)
    ∙ ap (λ ks. ks ++ map (renamed_symbol old new) (flat_map piece_symbols ps)) (sym (piece_symbols-other old new b))
    ∙ sym (map-append (renamed_symbol old new) (piece_symbols (Other b)) (flat_map piece_symbols ps))

renamed_pieces-read : (old new line : List ℕ) → is_name new ≡ true → IsOneLine line → pieces_of (flat_map (renamed_piece old new) (pieces_of line)) ≡ map (piece_with old new) (pieces_of line)
renamed_pieces-read old new line hn h =
    ap pieces_of (bytes-renamed old new (pieces_of line))
    ∙ pieces_of-bytes (map (piece_with old new) (pieces_of line))
    (ArePieces-renamed old new (pieces_of line) (IsWord-name new hn) (ArePieces-pieces_of line h))

line_symbols-renamed_as : (old new line : List ℕ) (t : Bool) → is_name old ≡ true → is_name new ≡ true → IsOneLine line → is_directive_line (solid_pieces line) ≡ t → line_symbols (renamed_line old new line) ≡ map (renamed_symbol old new) (line_symbols line)
line_symbols-renamed_as old new line true ho hn h e =
    let d = directive_symbol (after_first_piece (solid_pieces line)) in
    let spelled = cond-true (is_directive_line (solid_pieces line)) (d ∷ []) (flat_map piece_symbols (pieces_of line)) e in
    ap line_symbols (cond-true (is_directive_line (solid_pieces line)) line (flat_map (renamed_piece old new) (pieces_of line)) e)
    ∙ spelled ∙ ap (λ k. k ∷ []) (sym (directive_symbol-kept old new (after_first_piece (solid_pieces line))))
    ∙ sym (ap (map (renamed_symbol old new)) spelled)
line_symbols-renamed_as old new line false ho hn h e =
    let after = flat_map (renamed_piece old new) (pieces_of line) in
    let read = renamed_pieces-read old new line hn h in
    let stays : is_directive_line (solid_pieces after) ≡ false =
    ap (λ ps. is_directive_line (filter (λ p. not (is_blank_piece p)) ps)) read
    ∙ is_directive_line-renamed old new (pieces_of line) ∙ e in
    ap line_symbols (cond-false (is_directive_line (solid_pieces line)) line after e)
    ∙ cond-false (is_directive_line (solid_pieces after)) (directive_symbol (after_first_piece (solid_pieces after)) ∷ []) (flat_map piece_symbols (pieces_of after)) stays
    ∙ ap (flat_map piece_symbols) read
    ∙ pieces-renamed old new (pieces_of line) ho hn
    ∙ sym (ap (map (renamed_symbol old new)) (cond-false (is_directive_line (solid_pieces line)) (directive_symbol (after_first_piece (solid_pieces line)) ∷ []) (flat_map piece_symbols (pieces_of line)) e))

line_symbols-renamed : (old new line : List ℕ) → is_name old ≡ true → is_name new ≡ true → IsOneLine line → line_symbols (renamed_line old new line) ≡ map (renamed_symbol old new) (line_symbols line)
line_symbols-renamed old new line ho hn h =
    line_symbols-renamed_as old new line (is_directive_line (solid_pieces line)) ho hn h refl

-- the lines of a text hold no newline, also renamed
abbrev pub AreLines : List (List ℕ) → Type 0
AreLines = AllByRecursion IsOneLine

AreLines-onto_first : (b : ℕ) (ls : List (List ℕ)) → (b == 10) ≡ false → AreLines ls → AreLines (onto_first b ls)
AreLines-onto_first b [] n h = ((n, tt), tt)
AreLines-onto_first b (l ∷ ls) n h = ((n, h.0), h.1)

AreLines-cons : (b : ℕ) (ls : List (List ℕ)) (t : Bool) → (b == 10) ≡ t → AreLines ls → AreLines (cond t ([] ∷ ls) (onto_first b ls))
AreLines-cons b ls true e h = (tt, h)
AreLines-cons b ls false e h = AreLines-onto_first b ls e h

pub AreLines-lines_of : (bytes : List ℕ) → AreLines (lines_of bytes)
AreLines-lines_of [] = (tt, tt)
AreLines-lines_of (b ∷ bs) = AreLines-cons b (lines_of bs) (b == 10) refl (AreLines-lines_of bs)

IsOneLine-renamed_line : (old new line : List ℕ) → is_name new ≡ true → IsOneLine line → IsOneLine (renamed_line old new line)
IsOneLine-renamed_line old new line hn h =
    cond_both (is_directive_line (solid_pieces line)) line (flat_map (renamed_piece old new) (pieces_of line)) IsOneLine (λ _. h) (λ _.
    subst IsOneLine (sym (bytes-renamed old new (pieces_of line)))
    (IsOneLine-bytes (map (piece_with old new) (pieces_of line))
    (ArePieces-renamed old new (pieces_of line) (IsWord-name new hn) (ArePieces-pieces_of line h))))

AreLines-renamed : (old new : List ℕ) (ls : List (List ℕ)) → is_name new ≡ true → AreLines ls → AreLines (map (renamed_line old new) ls)
AreLines-renamed old new [] hn h = tt
AreLines-renamed old new (l ∷ ls) hn h = (IsOneLine-renamed_line old new l hn h.0, AreLines-renamed old new ls hn h.1)

-- and lines that are joined are those lines again
lines_of-joined : (l : List ℕ) (ls : List (List ℕ)) → AreLines (l ∷ ls) → lines_of (join_with_byte 10 (l ∷ ls)) ≡ l ∷ ls
lines_of-joined l [] h = slice_split_none (λ b. b == 10) l (All-from_recursion (λ b. (b == 10) ≡ false) l h.0)
lines_of-joined l (m ∷ ls) h =
    slice_split_at (λ b. b == 10) l 10 (join_with_byte 10 (m ∷ ls)) (All-from_recursion (λ b. (b == 10) ≡ false) l h.0) refl
    ∙ ap (λ ms. l ∷ ms) (lines_of-joined m ls h.1)

symbols-of_lines : (old new : List ℕ) (ls : List (List ℕ)) → is_name old ≡ true → is_name new ≡ true → AreLines ls → flat_map line_symbols (map (renamed_line old new) ls) ≡ map (renamed_symbol old new) (flat_map line_symbols ls)
symbols-of_lines old new [] ho hn h = refl
symbols-of_lines old new (l ∷ ls) ho hn h =
    ap (λ ks. ks ++ flat_map line_symbols (map (renamed_line old new) ls)) (line_symbols-renamed old new l ho hn h.0)
    ∙ ap (λ ks. map (renamed_symbol old new) (line_symbols l) ++ ks) (symbols-of_lines old new ls ho hn h.1)
    ∙ sym (map-append (renamed_symbol old new) (line_symbols l) (flat_map line_symbols ls))

joined-renamed : (old new : List ℕ) (ls : List (List ℕ)) → is_name old ≡ true → is_name new ≡ true → AreLines ls → flat_map line_symbols (lines_of (join_with_byte 10 (map (renamed_line old new) ls))) ≡ map (renamed_symbol old new) (flat_map line_symbols ls)
joined-renamed old new [] ho hn h = refl
joined-renamed old new (l ∷ ls) ho hn h =
    ap (flat_map line_symbols) (lines_of-joined (renamed_line old new l) (map (renamed_line old new) ls) (AreLines-renamed old new (l ∷ ls) hn h))
    ∙ symbols-of_lines old new (l ∷ ls) ho hn h

pub symbols_of-renamed : (old new bytes : List ℕ) → is_name old ≡ true → is_name new ≡ true → symbols_of (renamed_bytes old new bytes) ≡ map (renamed_symbol old new) (symbols_of bytes)
symbols_of-renamed old new bytes ho hn = joined-renamed old new (lines_of bytes) ho hn (AreLines-lines_of bytes)
