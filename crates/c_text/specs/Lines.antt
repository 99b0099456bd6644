-- The logical lines of a text and their tokens (ISO/IEC 9899:2011, 5.1.1.2, phases 2 and 3).
use Rattle.std.specs.Prelude.{◌≡◌, ℕ, suc, ◌<◌, Bool, true, false, List, [], ◌∷◌, ◌++◌, length, map, codes, Some, None}
use Rattle.std.specs.Str.{bytes_eq}
use Rattle.text_edits.specs.Span.{PlainSpan, plain_span}
use Rattle.c_text.specs.declared.origin.Place.TheVariants as place
use Rattle.c_text.specs.declared.token.TokenKind.{TokenKind}
use Rattle.c_text.specs.declared.line.Line.{Line}
use Rattle.c_text.specs.Token.{PlainOrigin, PlainToken, plain_token}
use Rattle.c_text.specs.Splices.{Placed, bytes_of, spliced}
use Rattle.c_text.specs.Pieces.{PieceKind, space, line_end, token, piece_of}

-- a piece of a text, and what it is
pub record Piece : Type 0 where
  pub bytes : List Placed
  pub kind : PieceKind

-- The text begins with the piece, and with no longer one.
pub record IsLongest (text : List Placed) (piece : Piece) (rest : List Placed) : Type 0 where
  pub split : text ≡ piece.bytes ++ rest
  pub is_piece : piece_of (bytes_of piece.bytes) ≡ Some piece.kind
  pub longest : (longer more : List Placed) → text ≡ longer ++ more → length piece.bytes < length longer → piece_of (bytes_of longer) ≡ None

-- The text consists of these pieces, each the longest that can stand there.
abbrev pub AreItsPieces : List Placed → List Piece → Type 0
AreItsPieces text [] = text ≡ []
AreItsPieces text (piece ∷ pieces) = (rest : List Placed) × IsLongest text piece rest × AreItsPieces rest pieces

abbrev pub start_of : List Placed → ℕ
start_of [] = 0
start_of (first ∷ rest) = first.at

abbrev pub end_of : List Placed → ℕ
end_of [] = 0
end_of (last ∷ []) = suc last.at
end_of (first ∷ second ∷ rest) = end_of (second ∷ rest)

-- from the first byte to the last, splices inside included
abbrev pub span_of : List Placed → PlainSpan
span_of bytes = record { start = start_of bytes; end = end_of bytes }

-- the origin of a token that stands in the text of a file
abbrev pub own_origin : ℕ → PlainSpan → PlainOrigin
own_origin file span = record { file = file; span = span; place = place.Text; site = span; site_file = file }

abbrev pub token_of : ℕ → Bool → TokenKind → List Placed → PlainToken
token_of file joined kind bytes =
    record { kind = kind; text = bytes_of bytes; joined = joined; origin = own_origin file (span_of bytes) }

abbrev pub with_piece : ℕ → Bool → Piece → PieceKind → (Bool → List PlainToken) → List PlainToken
with_piece file joined piece space others = others false
with_piece file joined piece line_end others = others false
with_piece file joined piece (token kind) others = token_of file joined kind piece.bytes ∷ others true

-- the tokens among pieces, where `joined` says whether a token stands right before them
abbrev pub tokens_among : ℕ → Bool → List Piece → List PlainToken
tokens_among file joined [] = []
tokens_among file joined (piece ∷ pieces) =
    with_piece file joined piece piece.kind (λ joins. tokens_among file joins pieces)

-- a line: whether it is a directive line, its tokens, and its bytes up to its newline
pub record PlainLine : Type 0 where
  pub directive : Bool
  pub tokens : List PlainToken
  pub span : PlainSpan

-- pieces of one line, and where it begins and ends
pub record Run : Type 0 where
  pub start : ℕ
  pub end : ℕ
  pub pieces : List Piece

abbrev pub run : ℕ → ℕ → List Piece → Run
run start end pieces = record { start = start; end = end; pieces = pieces }

-- a piece before the rest of its line; there is a line for the last pieces although no newline ends it
abbrev pub with_first : ℕ → ℕ → Piece → List Run → List Run
with_first start end piece [] = run start end (piece ∷ []) ∷ []
with_first start end piece (first ∷ runs) = run first.start first.end (piece ∷ first.pieces) ∷ runs

abbrev pub by_line_end : ℕ → ℕ → Piece → PieceKind → (ℕ → List Run) → List Run
by_line_end start end piece space others = with_first start end piece (others start)
by_line_end start end piece line_end others = run start (start_of piece.bytes) [] ∷ others (end_of piece.bytes)
by_line_end start end piece (token kind) others = with_first start end piece (others start)

-- the lines of pieces, of which the first begins and the last ends at these offsets
abbrev pub runs_of : ℕ → ℕ → List Piece → List Run
runs_of start end [] = []
runs_of start end (piece ∷ pieces) = by_line_end start end piece piece.kind (λ next. runs_of next end pieces)

abbrev pub begin_directive : List PlainToken → Bool
begin_directive [] = false
begin_directive (first ∷ rest) = bytes_eq first.text (codes "#")

abbrev pub line_with : List PlainToken → Run → PlainLine
line_with tokens r =
    record { directive = begin_directive tokens; tokens = tokens; span = record { start = r.start; end = r.end } }

abbrev pub line_of : ℕ → Run → PlainLine
line_of file r = line_with (tokens_among file false r.pieces) r

abbrev pub lines_of : ℕ → List Run → List PlainLine
lines_of file [] = []
lines_of file (r ∷ runs) = line_of file r ∷ lines_of file runs

-- The lines of the text of a file: its pieces, without splices, between newlines outside comments.
pub record AreItsLines (file : ℕ) (text : List ℕ) (lines : List PlainLine) : Type 0 where
  pub pieces : List Piece
  pub are_pieces : AreItsPieces (spliced text) pieces
  pub lines_are : lines ≡ lines_of file (runs_of 0 (length text) pieces)

-- a line with its tokens as a list
abbrev pub plain_line : Line → PlainLine
plain_line l = record { directive = l.directive; tokens = map plain_token l.tokens.items; span = plain_span l.span }
