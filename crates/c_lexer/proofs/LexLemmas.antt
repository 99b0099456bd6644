-- What is known while the pieces of a text are read.
use Rattle.std.proofs.Common.{◌≡◌, ℕ, zero, suc, ◌+◌, ◌-◌, ◌<◌, ◌≤◌, List, [], ◌∷◌, length, take, drop, refl, sym, ap, subst, ◌∙◌, arith}
use Rattle.std.proofs.lemmas.List.{take-map, drop-map, drop-drop, nil_from_length, length-map}
use Rattle.c_text.specs.Splices.{Placed, bytes_of, spliced}
use Rattle.c_text.specs.Pieces.{PieceKind, space, line_end, token}
use Rattle.c_text.specs.Lines.{Piece, AreItsPieces, PlainLine, AreItsLines}
use Rattle.c_lexer.specs.Classes.{IsLongestPiece}
use Rattle.c_lexer.specs.Reading.{with_places, Rise, Reading, begun_reading, after_kind, after_all, finished}
use Rattle.c_lexer.proofs.LengthLemmas.{rest-is}
use Rattle.c_lexer.proofs.PlaceLemmas.{places_of, with_places-of, Rise-to, Rise-within, Rise-drop, Rise-take, Rise-behind, Rise-spliced}
use Rattle.c_lexer.proofs.PieceLemmas.{longest-from_bytes}
use Rattle.c_lexer.proofs.ReadingLemmas.{all-read}

-- The pieces before the place `at` of the text without splices have been read.
pub record IsReading (file : ℕ) (text : List ℕ) (at : ℕ) (r : Reading) : Type 0 where
  pub rises : Rise r.start r.end (places_of (drop at (spliced text)))
  pub end_is : r.end ≡ length text
  pub goes_on : (pieces : List Piece) → AreItsPieces (drop at (spliced text)) pieces → AreItsLines file text (finished (after_all pieces r))

module _ (file : ℕ) (text : List ℕ) where
  pub reading-first : IsReading file text 0 (begun_reading file (length text))
  reading-first = record {
    rises = Rise-spliced text;
    end_is = refl;
    goes_on = λ pieces h. record { pieces = pieces; are_pieces = h; lines_are = all-read file (length text) pieces };
  }

  rises-after : (n at : ℕ) (r : Reading) (kind : PieceKind) → n < length (drop at (spliced text)) → Rise r.start r.end (places_of (drop at (spliced text))) → let s = after_kind kind (take (suc n) (drop at (spliced text))) r in Rise s.start s.end (places_of (drop (suc n) (drop at (spliced text))))
  rises-after n at r space w h =
      subst (λ ps. Rise r.start r.end ps) (drop-map (λ p. p.at) (suc n) (drop at (spliced text)))
      (Rise-drop (suc n) r.start r.end (places_of (drop at (spliced text))) h)
  rises-after n at r (token kind) w h =
      subst (λ ps. Rise r.start r.end ps) (drop-map (λ p. p.at) (suc n) (drop at (spliced text)))
      (Rise-drop (suc n) r.start r.end (places_of (drop at (spliced text))) h)
  rises-after n at r line_end w h = Rise-behind n r.start r.end (drop at (spliced text)) w h

  end-after : (r : Reading) (kind : PieceKind) (bytes : List Placed) → (after_kind kind bytes r).end ≡ r.end
  end-after r space bytes = refl
  end-after r line_end bytes = refl
  end-after r (token kind) bytes = refl

  reading-suc : (n at : ℕ) (r : Reading) (kind : PieceKind) → suc n ≤ length (drop at (spliced text)) → IsReading file text at r → IsLongestPiece (bytes_of (drop at (spliced text))) (suc n) kind → IsReading file text (at + suc n) (after_kind kind (take (suc n) (drop at (spliced text))) r)
  reading-suc n at r kind w h p =
      let rest = drop at (spliced text) in
      let next = after_kind kind (take (suc n) rest) r in
      let behind : drop (suc n) rest ≡ drop (at + suc n) (spliced text) = drop-drop (suc n) at (spliced text) in
      record {
        rises = subst (λ t. Rise next.start next.end (places_of t)) behind (rises-after n at r kind (omega (arith, w)) h.rises);
        end_is = end-after r kind (take (suc n) rest) ∙ h.end_is;
        goes_on = λ pieces are.
            h.goes_on (record { bytes = take (suc n) rest; kind = kind } ∷ pieces)
            (drop (suc n) rest, longest-from_bytes rest (suc n) kind p, subst (λ t. AreItsPieces t pieces) (sym behind) are);
      }

  -- The same in terms of the bytes and the places that the code has.
  module _ (bytes places : List ℕ) (bytes_are : bytes ≡ bytes_of (spliced text)) (places_are : places ≡ places_of (spliced text)) (at : ℕ) (r : Reading) (reading : IsReading file text at r) where
    bytes-rest : take (length bytes - at) (drop at bytes) ≡ bytes_of (drop at (spliced text))
    bytes-rest = rest-is at bytes ∙ ap (drop at) bytes_are ∙ drop-map (λ p. p.byte) at (spliced text)

    places-rest : drop at places ≡ places_of (drop at (spliced text))
    places-rest = ap (drop at) places_are ∙ drop-map (λ p. p.at) at (spliced text)

    piece-is : (n : ℕ) → with_places (take (at + n - at) (drop at bytes)) (take (at + n - at) (drop at places)) ≡ take n (drop at (spliced text))
    piece-is n =
        let size : at + n - at ≡ n = omega arith in
        let bytes-piece = ap (drop at) bytes_are ∙ drop-map (λ p. p.byte) at (spliced text) in
        ap (λ k. with_places (take k (drop at bytes)) (take k (drop at places))) size
        ∙ ap (λ bs. with_places (take n bs) (take n (drop at places))) bytes-piece
        ∙ ap (λ ps. with_places (take n (bytes_of (drop at (spliced text)))) (take n ps)) places-rest
        ∙ ap (λ bs. with_places bs (take n (places_of (drop at (spliced text))))) (take-map (λ p. p.byte) n (drop at (spliced text)))
        ∙ ap (λ ps. with_places (bytes_of (take n (drop at (spliced text)))) ps) (take-map (λ p. p.at) n (drop at (spliced text)))
        ∙ with_places-of (take n (drop at (spliced text)))

    -- the piece may be read
    pub may-read : length text ≤ 4294967295 → (n : ℕ) → Rise r.start 4294967295 (take (at + n - at) (drop at places))
    may-read small n =
        let high : r.end ≤ 4294967295 = omega (arith, small, reading.end_is) in
        let all = subst (λ ps. Rise r.start r.end ps) (sym places-rest) reading.rises in
        Rise-to r.start r.end 4294967295 (take (at + n - at) (drop at places)) high (Rise-take (at + n - at) r.start r.end (drop at places) all)

    more-read : (n : ℕ) (kind : PieceKind) → IsLongestPiece (take (length bytes - at) (drop at bytes)) n kind → IsReading file text (at + n) (after_kind kind (take n (drop at (spliced text))) r)
    more-read zero kind h = absurd (omega (arith, h.some))
    more-read (suc n) kind h =
        let piece = subst (λ bs. IsLongestPiece bs (suc n) kind) bytes-rest h in
        let within : suc n ≤ length (drop at (spliced text)) = omega (arith, piece.within, length-map (drop at (spliced text)) (λ p. p.byte)) in
        reading-suc n at r kind within reading piece

    -- and what has been read then
    pub reading-next : (n : ℕ) (kind : PieceKind) → IsLongestPiece (take (length bytes - at) (drop at bytes)) n kind → (next : Reading) → next ≡ after_kind kind (with_places (take (at + n - at) (drop at bytes)) (take (at + n - at) (drop at places))) r → IsReading file text (at + n) next
    reading-next n kind h next e =
        let same = e ∙ ap (λ w. after_kind kind w r) (piece-is n) in
        subst (λ s. IsReading file text (at + n) s) (sym same) (more-read n kind h)

    -- the last line may end
    pub may-finish : r.start ≤ r.end
    may-finish = Rise-within r.start r.end (places_of (drop at (spliced text))) reading.rises

    pub lines-are : take (length bytes - at) (drop at bytes) ≡ [] → (lines : List PlainLine) → lines ≡ finished r → AreItsLines file text lines
    lines-are none lines e =
        let size : length (drop at (spliced text)) ≡ 0 = sym (length-map (drop at (spliced text)) (λ p. p.byte)) ∙ ap length (sym bytes-rest ∙ none) in
        subst (λ ls. AreItsLines file text ls) (sym e) (reading.goes_on [] (nil_from_length (drop at (spliced text)) size))
