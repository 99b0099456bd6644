-- The tokens of the lines of a text are spelt as their kinds say.
use Rattle.std.proofs.Common.{◌≡◌, ℕ, zero, suc, Bool, true, false, List, [], ◌∷◌, take, drop, length, Some, sym, subst}
use Rattle.std.specs.List.{AllByRecursion}
use Rattle.text_edits.specs.Span.{PlainSpan}
use Rattle.c_text.specs.declared.token.TokenKind.{TokenKind}
use Rattle.c_text.specs.Token.{PlainToken}
use Rattle.c_text.specs.Splices.{Placed, bytes_of, spliced}
use Rattle.c_text.specs.Pieces.{PieceKind, space, line_end, token, piece_of}
use Rattle.c_text.specs.Lines.{Piece, AreItsPieces, with_piece, tokens_among, end_of, Run, with_first, by_line_end, runs_of, PlainLine, lines_of, AreItsLines}
use Rattle.active_tokens.proofs.Replacing.{Tokens}

-- the bytes are one piece of this kind, wherever it stands
abbrev pub Spelt : TokenKind → List ℕ → ℕ → PlainSpan → Type 0
Spelt kind text file span = piece_of text ≡ Some (token kind)

abbrev pub SpeltLine : PlainLine → Type 0
SpeltLine line = Tokens Spelt line.tokens

abbrev pub SpeltLines : List PlainLine → Type 0
SpeltLines lines = AllByRecursion SpeltLine lines

abbrev IsPiece : Piece → Type 0
IsPiece piece = piece_of (bytes_of piece.bytes) ≡ Some piece.kind

abbrev Pieces : List Piece → Type 0
Pieces pieces = AllByRecursion IsPiece pieces

abbrev Runs : List Run → Type 0
Runs runs = AllByRecursion (λ r. Pieces r.pieces) runs

its-pieces : (text : List Placed) (pieces : List Piece) → AreItsPieces text pieces → Pieces pieces
its-pieces text [] h = tt
its-pieces text (piece ∷ pieces) h = (h.1.is_piece, its-pieces h.0 pieces h.2)

with-spelt : (file : ℕ) (joined : Bool) (piece : Piece) (kind : PieceKind) (others : Bool → List PlainToken) → piece_of (bytes_of piece.bytes) ≡ Some kind → ((joins : Bool) → Tokens Spelt (others joins)) → Tokens Spelt (with_piece file joined piece kind others)
with-spelt file joined piece space others h o = o false
with-spelt file joined piece line_end others h o = o false
with-spelt file joined piece (token kind) others h o = (h, o true)

tokens-spelt : (file : ℕ) (joined : Bool) (pieces : List Piece) → Pieces pieces → Tokens Spelt (tokens_among file joined pieces)
tokens-spelt file joined [] h = tt
tokens-spelt file joined (piece ∷ pieces) h =
    with-spelt file joined piece piece.kind (λ joins. tokens_among file joins pieces) h.0 (λ joins. tokens-spelt file joins pieces h.1)

first-runs : (start end : ℕ) (piece : Piece) (runs : List Run) → IsPiece piece → Runs runs → Runs (with_first start end piece runs)
first-runs start end piece [] h rs = ((h, tt), tt)
first-runs start end piece (first ∷ runs) h rs = ((h, rs.0), rs.1)

ended-runs : (start end : ℕ) (piece : Piece) (kind : PieceKind) (others : ℕ → List Run) → IsPiece piece → ((next : ℕ) → Runs (others next)) → Runs (by_line_end start end piece kind others)
ended-runs start end piece space others h o = first-runs start end piece (others start) h (o start)
ended-runs start end piece line_end others h o = (tt, o (end_of piece.bytes))
ended-runs start end piece (token kind) others h o = first-runs start end piece (others start) h (o start)

its-runs : (start end : ℕ) (pieces : List Piece) → Pieces pieces → Runs (runs_of start end pieces)
its-runs start end [] h = tt
its-runs start end (piece ∷ pieces) h = ended-runs start end piece piece.kind (λ next. runs_of next end pieces) h.0 (λ next. its-runs next end pieces h.1)

its-lines : (file : ℕ) (runs : List Run) → Runs runs → SpeltLines (lines_of file runs)
its-lines file [] h = tt
its-lines file (r ∷ runs) h = (tokens-spelt file false r.pieces h.0, its-lines file runs h.1)

pub lines-spelt : (file : ℕ) (text : List ℕ) (lines : List PlainLine) → AreItsLines file text lines → SpeltLines lines
lines-spelt file text lines are =
    subst SpeltLines (sym are.lines_are)
    (its-lines file (runs_of 0 (length text) are.pieces) (its-runs 0 (length text) are.pieces (its-pieces (spliced text) are.pieces are.are_pieces)))

pub first-spelt : (n : ℕ) (lines : List PlainLine) → SpeltLines lines → SpeltLines (take n lines)
first-spelt zero lines h = tt
first-spelt (suc n) [] h = tt
first-spelt (suc n) (line ∷ lines) h = (h.0, first-spelt n lines h.1)

pub others-spelt : (n : ℕ) (lines : List PlainLine) → SpeltLines lines → SpeltLines (drop n lines)
others-spelt zero lines h = h
others-spelt (suc n) [] h = tt
others-spelt (suc n) (line ∷ lines) h = others-spelt n lines h.1
