-- The lengths of pieces from where they end.
use Rattle.std.specs.Prelude.{◌≡◌, ◌-◌}
use Rattle.c_lexer.specs.declared.scans.End.{End}
use Rattle.c_lexer.specs.declared.scans.End.TheVariants.{Closed, Open}
use Rattle.c_lexer.specs.declared.lengths.Lengths.{Lengths}

-- a closed piece without its last byte is an unclosed one
abbrev pub AreLengths : End → Lengths → Type 0
AreLengths (Closed n) l = (l.closed ≡ n) × (l.unclosed ≡ n - 1)
AreLengths (Open n) l = (l.closed ≡ 0) × (l.unclosed ≡ n)
