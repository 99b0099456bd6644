-- The pieces of the renamed text.
use Rattle.std.proofs.Common.{◌≡◌, ℕ, zero, suc, Bool, List, [], ◌∷◌, ◌++◌, map, refl, sym, ap, subst, ◌∙◌, inl, inr, ⊎_elim, arith, Some}
use Rattle.std.specs.Prelude.{Contains}
use Rattle.std.specs.List.{list_any, AllByRecursion}
use Rattle.std.proofs.lemmas.Bool.{cases_Bool, cond-true, cond-false}
use Rattle.std.proofs.lemmas.List.{map-append}
use Rattle.std.proofs.lemmas.List.Concat.{flat_map-append}
use Rattle.text_edits.specs.Span.{PlainSpan}
use Rattle.c_text.specs.declared.token.TokenKind.TheVariants.{Name}
use Rattle.c_text.specs.Splices.{Placed, bytes_of}
use Rattle.c_text.specs.Pieces.{token, piece_of}
use Rattle.c_text.specs.Lines.{Piece, IsLongest, AreItsPieces, span_of}
use Rattle.renamings.specs.Renamings.{same_span}
use Rattle.renamings.proofs.SpanLemmas.{RiseFrom}
use Rattle.renamings.proofs.TextLemmas.{IsSameTo, IsWord, word-of, renamed_byte, renamed_text}
use Rattle.renamings.proofs.LongestLemmas.{NoLonger, longest-bytes, bytes-longest, front-same, name-same}
use Rattle.renamings.proofs.ImageLemmas.{HasImage}

-- a piece's bytes and kind
pub piece-among : (text : List Placed) (pieces : List Piece) (piece : Piece) → AreItsPieces text pieces → Contains pieces piece → piece_of (bytes_of piece.bytes) ≡ Some piece.kind
piece-among text [] piece are (k, l, e) = absurd (omega (arith, l))
piece-among text (first ∷ pieces) piece are (zero, l, e) =
    subst (λ p. piece_of (bytes_of p.bytes) ≡ Some p.kind) e are.1.is_piece
piece-among text (first ∷ pieces) piece are (suc k, l, e) =
    piece-among are.0 pieces piece are.2 (k, omega (arith, l), e)

same-front : (w a b : List ℕ) → IsSameTo a b → IsSameTo (w ++ a) (w ++ b)
same-front [] a b h = h
same-front (x ∷ w) a b h = inl (refl, same-front w a b h)

same-names : (old new a b : List ℕ) → IsWord old → IsWord new → IsSameTo (old ++ a) (new ++ b)
same-names old new a b o n =
    let P : List ℕ → List ℕ → Type 0 = λ x y. IsSameTo (x ++ a) (y ++ b) in
    subst (λ x. P x new) (sym o.is) (subst (λ y. P (o.first ∷ o.others) y) (sym n.is) (inr (o.names, n.names)))

module _ (new : List ℕ) (spans : List PlainSpan) (rise : RiseFrom 0 spans) (word : IsWord new) (is_name : piece_of new ≡ Some (token Name)) (old : List ℕ) where
  abbrev image : List Placed → List Placed
  image text = renamed_text new spans text

  abbrev pub renamed_piece : Piece → Piece
  renamed_piece piece = record { bytes = image piece.bytes; kind = piece.kind }

  abbrev HaveImages : List Piece → Type 0
  HaveImages pieces = AllByRecursion (λ piece. HasImage new spans rise word old piece) pieces

  abbrev renamed_here : Piece → Bool
  renamed_here piece = list_any (same_span (span_of piece.bytes)) spans

  image-split : (text bytes rest : List Placed) → text ≡ bytes ++ rest → image text ≡ image bytes ++ image rest
  image-split text bytes rest e = ap image e ∙ flat_map-append (renamed_byte new spans) bytes rest

  same-piece_text : (piece : Piece) → HasImage new spans rise word old piece → (a b : List ℕ) → IsSameTo a b → IsSameTo (bytes_of piece.bytes ++ a) (bytes_of (image piece.bytes) ++ b)
  same-piece_text piece h a b same =
      ⊎_elim
      (λ e. let facts = h.named e in
      let is : bytes_of (image piece.bytes) ≡ new = h.text ∙ cond-true (renamed_here piece) new (bytes_of piece.bytes) e in
      subst (λ x. IsSameTo (x ++ a) (bytes_of (image piece.bytes) ++ b)) (sym facts.1)
      (subst (λ y. IsSameTo (old ++ a) (y ++ b)) (sym is) (same-names old new a b (word-of old facts.2) word)))
      (λ e. let is : bytes_of (image piece.bytes) ≡ bytes_of piece.bytes = h.text ∙ cond-false (renamed_here piece) new (bytes_of piece.bytes) e in
      subst (λ y. IsSameTo (bytes_of piece.bytes ++ a) (y ++ b)) (sym is) (same-front (bytes_of piece.bytes) a b same))
      (cases_Bool (renamed_here piece))

  same-text : (text : List Placed) (pieces : List Piece) → AreItsPieces text pieces → HaveImages pieces → IsSameTo (bytes_of text) (bytes_of (image text))
  same-text text [] are h = subst (λ t. IsSameTo (bytes_of t) (bytes_of (image t))) (sym are) tt
  same-text text (piece ∷ pieces) are h =
      let rest = are.0 in
      let later = same-text rest pieces are.2 h.1 in
      let front : bytes_of text ≡ bytes_of piece.bytes ++ bytes_of rest = ap bytes_of are.1.split ∙ map-append (λ p. p.byte) piece.bytes rest in
      let behind : bytes_of (image text) ≡ bytes_of (image piece.bytes) ++ bytes_of (image rest) = ap bytes_of (image-split text piece.bytes rest are.1.split) ∙ map-append (λ p. p.byte) (image piece.bytes) (image rest) in
      subst (λ x. IsSameTo x (bytes_of (image text))) (sym front)
      (subst (λ y. IsSameTo (bytes_of piece.bytes ++ bytes_of rest) y) (sym behind) (same-piece_text piece h.0 (bytes_of rest) (bytes_of (image rest)) later))

  longest-renamed : (text : List Placed) (piece : Piece) (rest : List Placed) → IsLongest text piece rest → HasImage new spans rise word old piece → IsSameTo (bytes_of rest) (bytes_of (image rest)) → IsLongest (image text) (renamed_piece piece) (image rest)
  longest-renamed text piece rest longest h same =
      bytes-longest (image text) (renamed_piece piece) (image rest) (image-split text piece.bytes rest longest.split) is none where
        is : piece_of (bytes_of (image piece.bytes)) ≡ Some piece.kind
        is =
            ⊎_elim (λ e. ap piece_of (h.text ∙ cond-true (renamed_here piece) new (bytes_of piece.bytes) e) ∙ is_name ∙ ap Some (sym (h.named e).0))
            (λ e. ap piece_of (h.text ∙ cond-false (renamed_here piece) new (bytes_of piece.bytes) e) ∙ longest.is_piece)
            (cases_Bool (renamed_here piece))

        none : NoLonger (bytes_of (image piece.bytes)) (bytes_of (image rest))
        none =
            let before = longest-bytes text piece rest longest in
            ⊎_elim
            (λ e. let facts = h.named e in
            subst (λ w. NoLonger w (bytes_of (image rest))) (sym (h.text ∙ cond-true (renamed_here piece) new (bytes_of piece.bytes) e))
            (name-same old new (bytes_of rest) (bytes_of (image rest)) facts.2 word same (subst (λ w. NoLonger w (bytes_of rest)) facts.1 before)))
            (λ e. subst (λ w. NoLonger w (bytes_of (image rest))) (sym (h.text ∙ cond-false (renamed_here piece) new (bytes_of piece.bytes) e))
            (front-same (bytes_of piece.bytes) (bytes_of rest) (bytes_of (image rest)) piece.kind longest.is_piece same before))
            (cases_Bool (renamed_here piece))

  -- the renamed pieces are those of the renamed text
  pub pieces-renamed : (text : List Placed) (pieces : List Piece) → AreItsPieces text pieces → AllByRecursion (λ piece. HasImage new spans rise word old piece) pieces → AreItsPieces (image text) (map renamed_piece pieces)
  pieces-renamed text [] are h = ap image are
  pieces-renamed text (piece ∷ pieces) are h =
      (image are.0, longest-renamed text piece are.0 are.1 h.0 (same-text are.0 pieces are.2 h.1), pieces-renamed are.0 pieces are.2 h.1)
