-- Where a piece ends that may lack its end.
use Rattle.std.specs.Prelude.{ℕ, ◌+◌}
use Rattle.c_lexer.specs.declared.scans.End.{End}
use Rattle.c_lexer.specs.declared.scans.End.TheVariants.{Closed, Open}

abbrev pub place_of : End → ℕ
place_of (Closed n) = n
place_of (Open n) = n

-- an end in the text with so many bytes before it
abbrev pub shifted : ℕ → End → End
shifted start (Closed n) = Closed (start + n)
shifted start (Open n) = Open (start + n)
