-- The lines of a text, piece by piece.
use Rattle.std.specs.Prelude.{ℕ, suc, ◌≤◌, Bool, true, false, List, [], ◌∷◌, ◌++◌, if◌then◌else◌}
use Rattle.text_edits.specs.Span.{PlainSpan}
use Rattle.c_text.specs.declared.token.TokenKind.{TokenKind}
use Rattle.c_text.specs.Token.{PlainToken}
use Rattle.c_text.specs.Splices.{Placed, placed, bytes_of}
use Rattle.c_text.specs.Pieces.{PieceKind, space, line_end, token}
use Rattle.c_text.specs.Lines.{Piece, span_of, own_origin, PlainLine, run, line_with}

-- bytes and their places
abbrev pub with_places : List ℕ → List ℕ → List Placed
with_places [] places = []
with_places (byte ∷ bytes) [] = []
with_places (byte ∷ bytes) (place ∷ places) = placed byte place ∷ with_places bytes places

-- the places rise strictly, from the first of these offsets on and to before the second
abbrev pub Rise : ℕ → ℕ → List ℕ → Type 0
Rise from to [] = from ≤ to
Rise from to (place ∷ places) = (from ≤ place) × Rise (suc place) to places

-- The lines of a file so far, and of the next one where it begins, its tokens, whether a token right behind them is joined, and
-- whether it has pieces.
pub record Reading : Type 0 where
  pub file : ℕ
  -- where the last line ends
  pub end : ℕ
  pub lines : List PlainLine
  pub start : ℕ
  pub tokens : List PlainToken
  pub joined : Bool
  pub begun : Bool

-- nothing read yet
abbrev pub begun_reading : ℕ → ℕ → Reading
begun_reading file end =
    record { file = file; end = end; lines = []; start = 0; tokens = []; joined = false; begun = false }

abbrev pub with_space : Reading → Reading
with_space r = record r { joined = false; begun = true }

-- the lines with the next one, up to this offset
abbrev pub with_line : ℕ → Reading → List PlainLine
with_line end r = r.lines ++ line_with r.tokens (run r.start end []) ∷ []

-- the line ended at this offset, and no token of the next one
abbrev pub ended_line : ℕ → Reading → Reading
ended_line end r = record r { lines = with_line end r; tokens = [] }

abbrev pub with_newline : PlainSpan → Reading → Reading
with_newline newline r = record r {
  lines = with_line newline.start r;
  start = newline.end;
  tokens = [];
  joined = false;
  begun = false;
}

abbrev pub with_token : TokenKind → List ℕ → PlainSpan → Reading → Reading
with_token kind text span r = record r {
  tokens = r.tokens ++ record { kind = kind; text = text; joined = r.joined; origin = own_origin r.file span } ∷ [];
  joined = true;
  begun = true;
}

-- what has been read with a piece more
abbrev pub after_kind : PieceKind → List Placed → Reading → Reading
after_kind space bytes r = with_space r
after_kind line_end bytes r = with_newline (span_of bytes) r
after_kind (token kind) bytes r = with_token kind (bytes_of bytes) (span_of bytes) r

abbrev pub after : Piece → Reading → Reading
after piece r = after_kind piece.kind piece.bytes r

-- what has been read with pieces more
abbrev pub after_all : List Piece → Reading → Reading
after_all [] r = r
after_all (piece ∷ pieces) r = after_all pieces (after piece r)

-- all lines, where nothing follows
abbrev pub finished : Reading → List PlainLine
finished r = if r.begun then with_line r.end r else r.lines
