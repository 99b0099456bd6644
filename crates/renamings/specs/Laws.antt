-- LAWS, each the contract of a function of this crate.
use Rattle.std.specs.Prelude.{ℕ, ◌<◌, ◌≤◌, List, map, All, Contains, IsTrue}
use Rattle.c_names.specs.Names.{is_new_name}
use Rattle.text_edits.specs.Span.{PlainSpan}
use Rattle.c_text.specs.Token.{PlainToken}
use Rattle.c_text.specs.Lines.{PlainLine, AreItsLines}
use Rattle.renamings.specs.Renamings.{Renaming, renamed_bytes, renamed_line, moved, AreNamesOf}

-- A name's tokens of a file get a new name: then these tokens of its lines have it, and nothing else changes there but the places.
abbrev pub LinesAreRenamed : Type 0
LinesAreRenamed =
    (r : Renaming) (number : ℕ) (bytes : List ℕ) (lines : List PlainLine) → IsTrue (is_new_name r.new) → AreItsLines number bytes lines → AreNamesOf r.old lines (r.spans number) → AreItsLines number (renamed_bytes r number bytes) (map (renamed_line r number) lines)

-- the offset isn't strictly inside the span
abbrev pub IsNotInside : ℕ → PlainSpan → Type 0
IsNotInside at span = span.start < at → span.end ≤ at

-- Places that aren't strictly inside renamed tokens stay in their order.
abbrev pub PlacesKeepTheirOrder : Type 0
PlacesKeepTheirOrder =
    (r : Renaming) (number : ℕ) (bytes : List ℕ) (lines : List PlainLine) → IsTrue (is_new_name r.new) → AreItsLines number bytes lines → AreNamesOf r.old lines (r.spans number) → (a b : ℕ) → All (IsNotInside a) (r.spans number) → All (IsNotInside b) (r.spans number) → a < b → moved r number a < moved r number b

-- No token of a file begins or ends strictly inside a renamed one.
abbrev pub TokensStandApart : Type 0
TokensStandApart =
    (r : Renaming) (number : ℕ) (bytes : List ℕ) (lines : List PlainLine) → IsTrue (is_new_name r.new) → AreItsLines number bytes lines → AreNamesOf r.old lines (r.spans number) → (line : PlainLine) (token : PlainToken) → Contains lines line → Contains line.tokens token → All (IsNotInside token.origin.span.start) (r.spans number) × All (IsNotInside token.origin.span.end) (r.spans number)
