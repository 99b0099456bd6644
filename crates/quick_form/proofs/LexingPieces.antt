-- Pieces of a line, put together again: what pieces_of gives can be told from its bytes.
use Rattle.std.proofs.Common.{◌≡◌, ℕ, Bool, true, false, ◌==◌, cond, List, [], ◌∷◌, ◌++◌, map, refl, sym, ap, ◌∙◌, subst}
use Rattle.std.specs.List.{flat_map, list_all, AllByRecursion}
use Rattle.std.proofs.lemmas.Bool.{true≢false, ne_eqb, and_parts, and_from, cond-true, cond-false}
use Rattle.quick_form.specs.Words.{is_word_byte}
use Rattle.quick_form.specs.Symbols.{Piece, Word, Other, piece_bytes, with_letter, pieces_of}
use Rattle.quick_form.specs.Renaming.{renamed_word, renamed_piece}

-- no newline stands in the bytes
abbrev pub IsOneLine : List ℕ → Type 0
IsOneLine = AllByRecursion (λ b. (b == 10) ≡ false)

abbrev pub piece_with : List ℕ → List ℕ → Piece → Piece
piece_with old new (Word w) = Word (renamed_word old new w)
piece_with old new (Other b) = Other b

abbrev pub NoWordFirst : List Piece → Type 0
NoWordFirst [] = Unit {0}
NoWordFirst (Word w ∷ ps) = ⊥
NoWordFirst (Other b ∷ ps) = Unit {0}

-- at least one byte, and only letters, digits and `_`
abbrev pub IsWord : List ℕ → Type 0
IsWord [] = ⊥
IsWord (b ∷ bs) = (is_word_byte b ≡ true) × (list_all is_word_byte bs ≡ true)

-- no two words side by side, and each other byte is none of a word, nor a newline
abbrev pub ArePieces : List Piece → Type 0
ArePieces [] = Unit {0}
ArePieces (Word w ∷ ps) = IsWord w × NoWordFirst ps × ArePieces ps
ArePieces (Other b ∷ ps) = (is_word_byte b ≡ false) × ((b == 10) ≡ false) × ArePieces ps

-- what pieces_of gives
ArePieces-with_letter : (b : ℕ) (ps : List Piece) → is_word_byte b ≡ true → ArePieces ps → ArePieces (with_letter b ps)
ArePieces-with_letter b [] e h = ((e, refl), tt, tt)
ArePieces-with_letter b (Word [] ∷ ps) e h = absurd h.0
ArePieces-with_letter b (Word (c ∷ w) ∷ ps) e h =
    ((e, and_from (is_word_byte c) (list_all is_word_byte w) h.0.0 h.0.1), h.1, h.2)
ArePieces-with_letter b (Other c ∷ ps) e h = ((e, refl), tt, h)

ArePieces-cons : (b : ℕ) (ps : List Piece) (t : Bool) → is_word_byte b ≡ t → (b == 10) ≡ false → ArePieces ps → ArePieces (cond t (with_letter b ps) (Other b ∷ ps))
ArePieces-cons b ps true e n h = ArePieces-with_letter b ps e h
ArePieces-cons b ps false e n h = (e, n, h)

pub ArePieces-pieces_of : (line : List ℕ) → IsOneLine line → ArePieces (pieces_of line)
ArePieces-pieces_of [] h = tt
ArePieces-pieces_of (b ∷ bs) h =
    ArePieces-cons b (pieces_of bs) (is_word_byte b) refl h.0 (ArePieces-pieces_of bs h.1)

-- and from their bytes it gives them again
pub with_letter-first : (b : ℕ) (ps : List Piece) → NoWordFirst ps → with_letter b ps ≡ Word (b ∷ []) ∷ ps
with_letter-first b [] n = refl
with_letter-first b (Word w ∷ ps) n = absurd n
with_letter-first b (Other c ∷ ps) n = refl

pub pieces_of-word : (w rest : List ℕ) → IsWord w → NoWordFirst (pieces_of rest) → pieces_of (w ++ rest) ≡ Word w ∷ pieces_of rest
pieces_of-word [] rest h n = absurd h
pieces_of-word (b ∷ []) rest h n =
    cond-true (is_word_byte b) (with_letter b (pieces_of rest)) (Other b ∷ pieces_of rest) h.0
    ∙ with_letter-first b (pieces_of rest) n
pieces_of-word (b ∷ c ∷ w) rest h n =
    let more = c ∷ w ++ rest in
    cond-true (is_word_byte b) (with_letter b (pieces_of more)) (Other b ∷ pieces_of more) h.0
    ∙ ap (with_letter b) (pieces_of-word (c ∷ w) rest (and_parts (is_word_byte c) (list_all is_word_byte w) h.1) n)

pub pieces_of-bytes : (ps : List Piece) → ArePieces ps → pieces_of (flat_map piece_bytes ps) ≡ ps
pieces_of-bytes [] h = refl
pieces_of-bytes (Word w ∷ ps) h =
    let e = pieces_of-bytes ps h.2 in
    pieces_of-word w (flat_map piece_bytes ps) h.0 (subst NoWordFirst (sym e) h.1) ∙ ap (λ qs. Word w ∷ qs) e
pieces_of-bytes (Other b ∷ ps) h =
    let more = pieces_of (flat_map piece_bytes ps) in
    cond-false (is_word_byte b) (with_letter b more) (Other b ∷ more) h.0
    ∙ ap (λ qs. Other b ∷ qs) (pieces_of-bytes ps h.2)

-- one word made another
NoWordFirst-renamed : (old new : List ℕ) (ps : List Piece) → NoWordFirst ps → NoWordFirst (map (piece_with old new) ps)
NoWordFirst-renamed old new [] h = tt
NoWordFirst-renamed old new (Word w ∷ ps) h = absurd h
NoWordFirst-renamed old new (Other b ∷ ps) h = tt

IsWord-renamed : (new w : List ℕ) (t : Bool) → IsWord new → IsWord w → IsWord (cond t new w)
IsWord-renamed new w true n h = n
IsWord-renamed new w false n h = h

pub ArePieces-renamed : (old new : List ℕ) (ps : List Piece) → IsWord new → ArePieces ps → ArePieces (map (piece_with old new) ps)
ArePieces-renamed old new [] n h = tt
ArePieces-renamed old new (Word w ∷ ps) n h =
    (IsWord-renamed new w _ n h.0, NoWordFirst-renamed old new ps h.1, ArePieces-renamed old new ps n h.2)
ArePieces-renamed old new (Other b ∷ ps) n h = (h.0, h.1, ArePieces-renamed old new ps n h.2)

pub bytes-renamed : (old new : List ℕ) (ps : List Piece) → flat_map (renamed_piece old new) ps ≡ flat_map piece_bytes (map (piece_with old new) ps)
bytes-renamed old new [] = refl
bytes-renamed old new (Word w ∷ ps) = ap (λ bs. renamed_word old new w ++ bs) (bytes-renamed old new ps)
bytes-renamed old new (Other b ∷ ps) = ap (λ bs. b ∷ bs) (bytes-renamed old new ps)

-- the bytes of pieces are one line
pub not_newline : (b : ℕ) → is_word_byte b ≡ true → (b == 10) ≡ false
not_newline b h = ne_eqb b 10 (λ e. true≢false (sym h ∙ ap is_word_byte e))

pub IsOneLine-append : (bs cs : List ℕ) → IsOneLine bs → IsOneLine cs → IsOneLine (bs ++ cs)
IsOneLine-append [] cs h k = k
IsOneLine-append (b ∷ bs) cs h k = (h.0, IsOneLine-append bs cs h.1 k)

pub IsOneLine-word_bytes : (w : List ℕ) → list_all is_word_byte w ≡ true → IsOneLine w
IsOneLine-word_bytes [] h = tt
IsOneLine-word_bytes (b ∷ w) h =
    let p = and_parts (is_word_byte b) (list_all is_word_byte w) h in
    (not_newline b p.0, IsOneLine-word_bytes w p.1)

pub IsOneLine-word : (w : List ℕ) → IsWord w → IsOneLine w
IsOneLine-word [] h = absurd h
IsOneLine-word (b ∷ w) h = (not_newline b h.0, IsOneLine-word_bytes w h.1)

pub IsOneLine-bytes : (ps : List Piece) → ArePieces ps → IsOneLine (flat_map piece_bytes ps)
IsOneLine-bytes [] h = tt
IsOneLine-bytes (Word w ∷ ps) h = IsOneLine-append w (flat_map piece_bytes ps) (IsOneLine-word w h.0) (IsOneLine-bytes ps h.2)
IsOneLine-bytes (Other b ∷ ps) h = (h.1, IsOneLine-bytes ps h.2)
