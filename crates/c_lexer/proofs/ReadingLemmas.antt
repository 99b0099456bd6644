-- The lines of pieces, read one after the other.
use Rattle.std.proofs.Common.{◌≡◌, ℕ, Bool, true, false, List, [], ◌∷◌, ◌++◌, refl, sym, ap, ◌∙◌, append_assoc}
use Rattle.std.proofs.lemmas.List.{append-nil}
use Rattle.c_text.specs.declared.token.TokenKind.{TokenKind}
use Rattle.c_text.specs.Token.{PlainToken}
use Rattle.c_text.specs.Splices.{Placed}
use Rattle.c_text.specs.Pieces.{PieceKind, space, line_end, token}
use Rattle.c_text.specs.Lines.{Piece, start_of, end_of, token_of, tokens_among, PlainLine, Run, run, with_first, by_line_end, runs_of, line_with, lines_of}
use Rattle.c_lexer.specs.Reading.{Reading, begun_reading, after_kind, after_all, finished}

module _ (file end : ℕ) where
  abbrev reading : List PlainLine → ℕ → List PlainToken → Bool → Bool → Reading
  reading lines start tokens joined begun =
      record { file = file; end = end; lines = lines; start = start; tokens = tokens; joined = joined; begun = begun }

  abbrev piece : List Placed → PieceKind → Piece
  piece bytes kind = record { bytes = bytes; kind = kind }

  -- lines of which the first has these tokens before its own
  abbrev merged : ℕ → List PlainToken → Bool → List Run → List PlainLine
  merged start tokens joined [] = line_with tokens (run start end []) ∷ []
  merged start tokens joined (first ∷ runs) = line_with (tokens ++ tokens_among file joined first.pieces) first ∷ lines_of file runs

  merged-space : (start : ℕ) (tokens : List PlainToken) (joined : Bool) (bytes : List Placed) (runs : List Run) → merged start tokens false runs ≡ merged start tokens joined (with_first start end (piece bytes space) runs)
  merged-space start tokens joined bytes [] = ap (λ ts. line_with ts (run start end []) ∷ []) (sym (append-nil tokens))
  merged-space start tokens joined bytes (first ∷ runs) = refl

  merged-token : (start : ℕ) (tokens : List PlainToken) (joined : Bool) (bytes : List Placed) (kind : TokenKind) (runs : List Run) → merged start (tokens ++ token_of file joined kind bytes ∷ []) true runs ≡ merged start tokens joined (with_first start end (piece bytes (token kind)) runs)
  merged-token start tokens joined bytes kind [] = refl
  merged-token start tokens joined bytes kind (first ∷ runs) =
      ap (λ ts. line_with ts first ∷ lines_of file runs) (append_assoc tokens (token_of file joined kind bytes ∷ []) (tokens_among file true first.pieces))

  first-merged : (start : ℕ) (p : Piece) (runs : List Run) → merged start [] false (with_first start end p runs) ≡ lines_of file (with_first start end p runs)
  first-merged start p [] = refl
  first-merged start p (first ∷ runs) = refl

  merged-none : (start : ℕ) (p : Piece) (kind : PieceKind) (others : ℕ → List Run) → merged start [] false (by_line_end start end p kind others) ≡ lines_of file (by_line_end start end p kind others)
  merged-none start p space others = first-merged start p (others start)
  merged-none start p line_end others = refl
  merged-none start p (token kind) others = first-merged start p (others start)

  abbrev Begun : List Piece → Type 0
  Begun pieces =
      (lines : List PlainLine) (start : ℕ) (tokens : List PlainToken) (joined : Bool) → finished (after_all pieces (reading lines start tokens joined true)) ≡ lines ++ merged start tokens joined (runs_of start end pieces)

  abbrev Unbegun : List Piece → Type 0
  Unbegun pieces =
      (lines : List PlainLine) (start : ℕ) → finished (after_all pieces (reading lines start [] false false)) ≡ lines ++ lines_of file (runs_of start end pieces)

  step : (pieces : List Piece) → Begun pieces → Unbegun pieces → (bytes : List Placed) (kind : PieceKind) (lines : List PlainLine) (start : ℕ) (tokens : List PlainToken) (joined begun : Bool) → finished (after_all pieces (after_kind kind bytes (reading lines start tokens joined begun))) ≡ lines ++ merged start tokens joined (by_line_end start end (piece bytes kind) kind (λ next. runs_of next end pieces))
  step pieces h none bytes space lines start tokens joined begun =
      h lines start tokens false ∙ ap (λ ls. lines ++ ls) (merged-space start tokens joined bytes (runs_of start end pieces))
  step pieces h none bytes (token kind) lines start tokens joined begun =
      h lines start (tokens ++ token_of file joined kind bytes ∷ []) true
      ∙ ap (λ ls. lines ++ ls) (merged-token start tokens joined bytes kind (runs_of start end pieces))
  step pieces h none bytes line_end lines start tokens joined begun =
      let line = run start (start_of bytes) [] in
      let others = lines_of file (runs_of (end_of bytes) end pieces) in
      none (lines ++ line_with tokens line ∷ []) (end_of bytes) ∙ append_assoc lines (line_with tokens line ∷ []) others
      ∙ ap (λ ts. lines ++ (line_with ts line ∷ others)) (sym (append-nil tokens))

  mutual
    begun : (pieces : List Piece) → Begun pieces
    begun [] = λ lines start tokens joined. refl
    begun (p ∷ pieces) = λ lines start tokens joined. step pieces (begun pieces) (unbegun pieces) p.bytes p.kind lines start tokens joined true

    unbegun : (pieces : List Piece) → Unbegun pieces
    unbegun [] = λ lines start. sym (append-nil lines)
    unbegun (p ∷ pieces) = λ lines start.
        step pieces (begun pieces) (unbegun pieces) p.bytes p.kind lines start [] false false
        ∙ ap (λ ls. lines ++ ls) (merged-none start p p.kind (λ next. runs_of next end pieces))

  pub all-read : (pieces : List Piece) → finished (after_all pieces (begun_reading file end)) ≡ lines_of file (runs_of 0 end pieces)
  all-read pieces = unbegun pieces [] 0
