use Rattle.std.proofs.Common.{◌≡◌, map, drop, string_bytes}
use Rattle.std.specs.List.{position_from}
use Rattle.std.specs.Str.{bytes_eq}
use Rattle.rename_words.proofs.fits.number_among.Given as goal

abbrev pub invariant-loop-number : goal.invariant-loop-number
invariant-loop-number l =
    position_from (bytes_eq l.name) l.number (map string_bytes (drop l.number l.names))
    ≡ position_from (bytes_eq l.name) 0 (map string_bytes l.names)
