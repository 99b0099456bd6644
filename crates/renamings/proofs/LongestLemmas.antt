-- Longest pieces of a text and of the text in which names are renamed.
use Rattle.std.proofs.Common.{◌≡◌, ℕ, zero, suc, ◌+◌, ◌-◌, ◌<◌, ◌≤◌, true, false, ◌&&◌, List, [], ◌∷◌, ◌++◌, length, take, drop, refl, sym, ap, ◌∙◌, inl, inr, append_assoc, arith, length-append, Some, None}
use Rattle.std.specs.List.{list_all}
use Rattle.std.proofs.lemmas.Bool.{false≢true, both_ways, and_parts, and_from, false_from_ne_true}
use Rattle.std.proofs.lemmas.Option.{none-some}
use Rattle.std.proofs.lemmas.List.{take-map, take-append-drop, length-take-le, length-map, map-append}
use Rattle.std.proofs.lemmas.List.Folds.{list_all-append}
use Rattle.std.proofs.Math.Seq.{take-append_seam, take-append-add}
use Rattle.c_names.specs.Names.{is_nondigit, is_word_byte, is_identifier}
use Rattle.c_text.specs.Splices.{Placed, bytes_of}
use Rattle.c_text.specs.Pieces.{PieceKind, piece_of}
use Rattle.c_text.specs.Lines.{Piece, IsLongest}
use Rattle.renamings.proofs.SeamLemmas.{nondigit-is_word, no_piece, name-behind, name-ends}
use Rattle.renamings.proofs.TextLemmas.{IsSameTo, IsWord}

-- no piece goes on with the bytes behind it
abbrev pub NoLonger : List ℕ → List ℕ → Type 0
NoLonger front rest = (n : ℕ) → 0 < n → n ≤ length rest → piece_of (front ++ take n rest) ≡ None

-- ---- from pieces with places, and back

pub longest-bytes : (text : List Placed) (piece : Piece) (rest : List Placed) → IsLongest text piece rest → NoLonger (bytes_of piece.bytes) (bytes_of rest)
longest-bytes text piece rest h = λ n some within.
    let size : length (bytes_of rest) ≡ length rest = length-map rest (λ p. p.byte) in
    let taken : length (take n rest) ≡ n = length-take-le n rest (omega (arith, size, within)) in
    let whole : text ≡ (piece.bytes ++ take n rest) ++ drop n rest =
    h.split ∙ ap (λ xs. piece.bytes ++ xs) (sym (take-append-drop n rest)) ∙ sym (append_assoc piece.bytes (take n rest) (drop n rest)) in
    let more : length piece.bytes < length (piece.bytes ++ take n rest) = omega (arith, length-append piece.bytes (take n rest), taken, some) in
    let same : bytes_of (piece.bytes ++ take n rest) ≡ bytes_of piece.bytes ++ take n (bytes_of rest) =
    map-append (λ p. p.byte) piece.bytes (take n rest) ∙ ap (λ xs. bytes_of piece.bytes ++ xs) (sym (take-map (λ p. p.byte) n rest)) in
    ap piece_of (sym same) ∙ h.longest (piece.bytes ++ take n rest) (drop n rest) whole more

pub bytes-longest : (text : List Placed) (piece : Piece) (rest : List Placed) → text ≡ piece.bytes ++ rest → piece_of (bytes_of piece.bytes) ≡ Some piece.kind → NoLonger (bytes_of piece.bytes) (bytes_of rest) → IsLongest text piece rest
bytes-longest text piece rest split is none = record {
  split = split;
  is_piece = is;
  longest = λ longer more e above.
      let n = length longer - length piece.bytes in
      let size : length longer ≡ length piece.bytes + n = omega (arith, above) in
      let whole : piece.bytes ++ rest ≡ longer ++ more = sym split ∙ e in
      let all : length piece.bytes + length rest ≡ length longer + length more = sym (length-append piece.bytes rest) ∙ ap length whole ∙ length-append longer more in
      let front : longer ≡ piece.bytes ++ take n rest =
      sym (take-append_seam longer more) ∙ ap (take (length longer)) (sym whole) ∙ ap (λ k. take k (piece.bytes ++ rest)) size
      ∙ take-append-add piece.bytes rest n in
      let bytes : length (bytes_of rest) ≡ length rest = length-map rest (λ p. p.byte) in
      let same : bytes_of longer ≡ bytes_of piece.bytes ++ take n (bytes_of rest) =
      ap bytes_of front ∙ map-append (λ p. p.byte) piece.bytes (take n rest)
      ∙ ap (λ xs. bytes_of piece.bytes ++ xs) (sym (take-map (λ p. p.byte) n rest)) in
      ap piece_of same ∙ none n (omega (arith, above)) (omega (arith, all, size, bytes));
}

-- ---- behind a piece that stays

none-same : (first : ℕ) (xs rest rest' : List ℕ) → IsSameTo rest rest' → NoLonger (first ∷ xs) rest → NoLonger (first ∷ xs) rest'
none-same first xs [] [] same none = none
none-same first xs [] (c ∷ ys) same none = absurd same
none-same first xs (b ∷ rest) [] same none = absurd same
none-same first xs (b ∷ rest) (c ∷ rest') (inr h) none = λ n some within. by n some where
  by : (n : ℕ) → 0 < n → piece_of (first ∷ (xs ++ take n (c ∷ rest'))) ≡ None
  by zero some = absurd (omega (arith, some))
  by (suc n) some = name-behind b c first xs (take n rest') h.0 h.1 (none 1 (omega arith) (omega arith))
none-same first xs (b ∷ rest) (c ∷ rest') (inl h) none = λ n some within.
    by n some within (none-same first (xs ++ b ∷ []) rest rest' h.1 (λ m more inside.
    ap (λ w. piece_of (first ∷ w)) (append_assoc xs (b ∷ []) (take m rest)) ∙ none (suc m) (omega arith) (omega (arith, inside)))) where
      by : (n : ℕ) → 0 < n → n ≤ length (c ∷ rest') → NoLonger (first ∷ (xs ++ b ∷ [])) rest' → piece_of (first ∷ (xs ++ take n (c ∷ rest'))) ≡ None
      by zero some within later = absurd (omega (arith, some))
      by (suc zero) some within later =
          ap (λ x. piece_of (first ∷ (xs ++ x ∷ []))) (sym h.0) ∙ none 1 (omega arith) (omega arith)
      by (suc (suc n)) some within later =
          ap (λ x. piece_of (first ∷ (xs ++ x ∷ take (suc n) rest'))) (sym h.0)
          ∙ ap (λ w. piece_of (first ∷ w)) (sym (append_assoc xs (b ∷ []) (take (suc n) rest')))
          ∙ later (suc n) (omega arith) (omega (arith, within))

pub front-same : (front rest rest' : List ℕ) (kind : PieceKind) → piece_of front ≡ Some kind → IsSameTo rest rest' → NoLonger front rest → NoLonger front rest'
front-same [] rest rest' kind is same none = absurd (none-some kind is)
front-same (first ∷ xs) rest rest' kind is same none = none-same first xs rest rest' same none

-- ---- behind a name

-- a name's piece ends before a byte that is none of a word
ends-word : (old : List ℕ) (b : ℕ) → is_identifier old ≡ true → piece_of (old ++ b ∷ []) ≡ None → is_word_byte b ≡ false
ends-word [] b h none = absurd (false≢true h)
ends-word (first ∷ xs) b h none =
    let parts = and_parts (is_nondigit first) (list_all is_word_byte xs) h in
    false_from_ne_true (is_word_byte b) (λ e.
    let longer : list_all is_word_byte (xs ++ b ∷ []) ≡ true = list_all-append is_word_byte xs (b ∷ []) ∙ and_from (list_all is_word_byte xs) (is_word_byte b && true) parts.1 (and_from (is_word_byte b) true e refl) in
    both_ways (is_identifier (first ∷ (xs ++ b ∷ []))) (no_piece (first ∷ (xs ++ b ∷ [])) none).identifier (and_from (is_nondigit first) (list_all is_word_byte (xs ++ b ∷ [])) parts.0 longer))

pub name-same : (old new rest rest' : List ℕ) → is_identifier old ≡ true → IsWord new → IsSameTo rest rest' → NoLonger old rest → NoLonger new rest'
name-same old new [] [] h word same none = λ n some within. absurd (omega (arith, some, within))
name-same old new [] (c ∷ ys) h word same none = absurd same
name-same old new (b ∷ rest) [] h word same none = absurd same
name-same old new (b ∷ rest) (c ∷ rest') h word (inr two) none =
    absurd (both_ways (is_word_byte b) (ends-word old b h (none 1 (omega arith) (omega arith))) (nondigit-is_word b two.0))
name-same old new (b ∷ rest) (c ∷ rest') h word (inl one) none = λ n some within. by n some where
  other : is_word_byte c ≡ false
  other = ap is_word_byte (sym one.0) ∙ ends-word old b h (none 1 (omega arith) (omega arith))

  by : (n : ℕ) → 0 < n → piece_of (new ++ take n (c ∷ rest')) ≡ None
  by zero some = absurd (omega (arith, some))
  by (suc n) some =
      ap (λ w. piece_of (w ++ c ∷ take n rest')) word.is ∙ name-ends word.first word.others c (take n rest') word.names other
