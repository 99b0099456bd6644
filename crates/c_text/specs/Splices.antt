-- A text without its splices (ISO/IEC 9899:2011, 5.1.1.2, phase 2).
use Rattle.std.specs.Prelude.{ℕ, zero, suc, ◌∷◌, [], List, map, nat_eq, if◌then◌else◌}
use Rattle.std.specs.List.{starts_with}
use Rattle.c_names.specs.Bytes.{backslash, carriage_return, newline}

-- a byte of a text, and its offset there
pub record Placed : Type 0 where
  pub byte : ℕ
  pub at : ℕ

abbrev pub placed : ℕ → ℕ → Placed
placed byte at = record { byte = byte; at = at }

abbrev pub bytes_of : List Placed → List ℕ
bytes_of text = map (λ p. p.byte) text

-- The length of the splice that a text begins with, or 0: a backslash and a newline, or these with a carriage return between
-- them.
abbrev pub splice_length : List ℕ → ℕ
splice_length text =
    if starts_with nat_eq text (backslash ∷ newline ∷ []) then 2 else if starts_with nat_eq text (backslash ∷ carriage_return ∷ 10 ∷ []) then 3 else 0

-- a byte stays where a splice of length 0 begins; else so many bytes go, this one among them
abbrev pub unless_splice : ℕ → Placed → (ℕ → List Placed) → List Placed
unless_splice zero byte others = byte ∷ others 0
unless_splice (suc more) byte others = others more

-- the bytes that stay of a text from this offset on, where so many more bytes of a splice are to go
abbrev pub spliced_from : ℕ → ℕ → List ℕ → List Placed
spliced_from more at [] = []
spliced_from (suc more) at (byte ∷ rest) = spliced_from more (suc at) rest
spliced_from zero at (byte ∷ rest) =
    unless_splice (splice_length (byte ∷ rest)) (placed byte at) (λ more. spliced_from more (suc at) rest)

-- a text without its splices
abbrev pub spliced : List ℕ → List Placed
spliced text = spliced_from 0 0 text
