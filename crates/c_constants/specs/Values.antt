-- A value at a time of what stands between two quotes.
use Rattle.std.specs.Prelude.{ℕ, ◌==◌, List, Option, Some, None, if◌then◌else◌}
use Rattle.c_text.specs.Constants.{Escape, escape_at, is_source_byte}

-- the value that begins at a byte, which these bytes follow
abbrev pub value_at : ℕ → List ℕ → Option Escape
value_at b rest =
    if b == 92 then escape_at rest
    else if is_source_byte b then Some (record { value = b; length = 0 }) else None
