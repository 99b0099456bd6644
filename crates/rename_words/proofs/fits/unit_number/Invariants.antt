use Rattle.std.proofs.Common.{◌≡◌, map, drop}
use Rattle.std.specs.List.{position_from}
use Rattle.std.specs.Str.{bytes_eq}
use Rattle.rename_words.specs.Steps.{file_of}
use Rattle.rename_words.proofs.fits.unit_number.Given as goal

abbrev pub invariant-loop-number : goal.invariant-loop-number
invariant-loop-number l =
    position_from (bytes_eq l.file) l.number (map file_of (drop l.number l.units))
    ≡ position_from (bytes_eq l.file) 0 (map file_of l.units)
